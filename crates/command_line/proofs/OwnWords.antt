-- The words that clap is given: those of the command line, but for `bank help --help`.
use Rattle.std.proofs.Common.{◌≡◌, ◌∙◌, ◌⊎◌, ap, refl, sym, subst, inl, inr, Bool, true, false, List, [], ◌∷◌, codes}
use Rattle.std.proofs.Common.{Result, Ok, Err}
use Rattle.std.specs.Str.{bytes_eq}
use Rattle.std.proofs.lemmas.Slice.Eq.{bytes_eq-Decides}
use Rattle.clap.specs.Words.{FailsBy, Kinds, Text, fault_of, kind_of, takes}
use Rattle.clap.specs.declared.error.Error.{Error}
use Rattle.clap.specs.declared.error.kind.ErrorKind.TheVariants.{DisplayHelp, InvalidSubcommand, OutOfMemory}
use Rattle.clap.proofs.OnLiterals.{clap_on_literals}
use Rattle.command_line.specs.{CommandLine.bank_app, Words.words_read}

-- ---- which words those are

-- the words are `bank help --help`
abbrev AsksOnHelp : List Text → Type 0
AsksOnHelp words = (program : Text) × (words ≡ program ∷ codes "help" ∷ codes "--help" ∷ [])

read_as_they_are : (words : List Text) → (words_read words ≡ words) ⊎ AsksOnHelp words
read_as_they_are (program ∷ name ∷ flag ∷ []) =
    go (bytes_eq name (codes "help")) refl (bytes_eq flag (codes "--help")) refl
  where
    go : (named : Bool) → bytes_eq name (codes "help") ≡ named
        → (flagged : Bool) → bytes_eq flag (codes "--help") ≡ flagged
        → (words_read (program ∷ name ∷ flag ∷ []) ≡ program ∷ name ∷ flag ∷ [])
        ⊎ AsksOnHelp (program ∷ name ∷ flag ∷ [])
    go false other flagged is = inl (rw other refl)
    go true named false other = inl (rw (named, other) refl)
    go true named true flagged =
        let first : name ≡ codes "help" = (bytes_eq-Decides name (codes "help")).0 named in
        let second : flag ≡ codes "--help" = (bytes_eq-Decides flag (codes "--help")).0 flagged in
        inr (program, rw (first, second) refl)
read_as_they_are other = inl refl

-- ---- what clap says of them

abbrev pub help_alone : Kinds
help_alone = DisplayHelp ∷ []

abbrev help_or_unknown : Kinds
help_or_unknown = DisplayHelp ∷ InvalidSubcommand ∷ []

at_read : fault_of bank_app (codes "help" ∷ codes "--help" ∷ []) ≡ help_alone
unfolding clap_on_literals
at_read = refl

at_given : (program : Text) → fault_of bank_app (program ∷ codes "help" ∷ codes "--help" ∷ []) ≡ help_or_unknown
unfolding clap_on_literals
at_given program = refl

given_not_taken : (program : Text) → takes bank_app (program ∷ codes "help" ∷ codes "--help" ∷ []) ≡ false
unfolding clap_on_literals
given_not_taken program = refl

-- they ask for help as they are read
help_at_read : (words : List Text) → AsksOnHelp words → fault_of bank_app (words_read words) ≡ help_alone
help_at_read words asks = ap (λ (w : List Text). fault_of bank_app (words_read w)) asks.1 ∙ at_read

-- words that are read with no fault are read as they are
pub same_at_none : (words : List Text) → fault_of bank_app (words_read words) ≡ [] → words_read words ≡ words
same_at_none words none = elim (read_as_they_are words) [
  | inl same ↦ same
  | inr asks ↦ let bad : [] ≡ help_alone = sym none ∙ help_at_read words asks in cc
]

wider : {T : Type 0} (r : Result T Error) → FailsBy help_alone r → FailsBy help_or_unknown r
wider (Ok x) fails = cc
wider (Err e) (inl memory) = inl memory
wider (Err e) (inr (inl help)) = inr (inl help)
wider (Err e) (inr (inr none)) = absurd none

-- the error of the words that are read is one of the words
pub fails_as_read : {T : Type 0} (r : Result T Error) (words : List Text)
    → FailsBy (fault_of bank_app (words_read words)) r → FailsBy (fault_of bank_app words) r
fails_as_read r words fails = elim (read_as_they_are words) [
  | inl same ↦ subst (λ (w : List Text). FailsBy (fault_of bank_app w) r) same fails
  | inr asks ↦
      let given : fault_of bank_app words ≡ help_or_unknown = ap (fault_of bank_app) asks.1 ∙ at_given asks.0 in
      subst (λ (kinds : Kinds). FailsBy kinds r) (sym given)
      (wider r (subst (λ (kinds : Kinds). FailsBy kinds r) (help_at_read words asks) fails))
]

-- words that clap would take are read as they are
pub taken_as_read : (error : Error) (words : List Text)
    → (takes bank_app (words_read words) ≡ true → kind_of error ≡ OutOfMemory)
    → takes bank_app words ≡ true → kind_of error ≡ OutOfMemory
taken_as_read error words fails taken = elim (read_as_they_are words) [
  | inl same ↦ fails (ap (takes bank_app) same ∙ taken)
  | inr asks ↦
      let bad : false ≡ true = sym (given_not_taken asks.0) ∙ (ap (takes bank_app) (sym asks.1) ∙ taken) in
      cc
]
