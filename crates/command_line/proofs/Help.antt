-- Words that ask for help fail with the help.
use Rattle.std.proofs.Common.{◌≡◌, ◌∙◌, sym, inl, inr, List, [], Result, Ok, Err, IsErrAnd}
use Rattle.clap.specs.Words.{FailsBy, HasKind, Kinds, Text, fault_of}
use Rattle.clap.specs.declared.error.Error.{Error}
use Rattle.command_line.specs.{CommandLine.bank_app, Words.AsksForHelp, Words.IsHelp, Words.words_read}
use Rattle.command_line.proofs.OwnWords.{help_alone}

helped : {T : Type 0} (r : Result T Error) (kinds : Kinds) → kinds ≡ help_alone → FailsBy kinds r
    → IsErrAnd r IsHelp
helped (Ok x) kinds is fails =
    let bad : [] ≡ help_alone = rw fails at is in
    cc
helped (Err e) kinds is fails = go (rw is at fails)
  where
    go : HasKind help_alone e → IsHelp e
    go (inl memory) = inr memory
    go (inr (inl help)) = inl help
    go (inr (inr none)) = absurd none

-- a request for help answers with it
pub help_given : {T : Type 0} (r : Result T Error) (words : List Text)
    → FailsBy (fault_of bank_app (words_read words)) r → AsksForHelp words → IsErrAnd r IsHelp
help_given r words fails asks = helped r (fault_of bank_app (words_read words)) asks fails

-- words with no fault ask for none
pub no_help_asked : (words : List Text) → fault_of bank_app (words_read words) ≡ [] → AsksForHelp words → ⊥
no_help_asked words none asks =
    let bad : [] ≡ help_alone = sym none ∙ asks in
    cc
