-- Words that clap takes, in the order of the help and in others; and words that ask for help.
use Rattle.std.proofs.Common.{◌≡◌, true, refl, List, [], ◌∷◌, codes}
use Rattle.clap.specs.Words.{Text, fault_of, takes}
use Rattle.clap.proofs.OnLiterals.{clap_on_literals}
use Rattle.command_line.specs.{CommandLine.bank_app, Words.AsksForHelp}

-- clap takes these words after the program's name, and finds no fault in them
abbrev IsTaken : List Text → Type 0
IsTaken words = (takes bank_app (codes "bank" ∷ words) ≡ true) × (fault_of bank_app (codes "bank" ∷ words) ≡ [])

seed_first : IsTaken
    (codes "drive" ∷ codes "my.db" ∷ codes "--seed" ∷ codes "7" ∷ codes "--count" ∷ codes "1000" ∷ [])
unfolding clap_on_literals
seed_first = (refl, refl)

count_first : IsTaken
    (codes "drive" ∷ codes "--count" ∷ codes "1000" ∷ codes "--seed=7" ∷ codes "my.db" ∷ [])
unfolding clap_on_literals
count_first = (refl, refl)

connections_first : IsTaken
    (codes "serve" ∷ codes "--connections" ∷ codes "5" ∷ codes "my.db" ∷ codes "127.0.0.1:0" ∷ [])
unfolding clap_on_literals
connections_first = (refl, refl)

without_connections : IsTaken (codes "serve" ∷ codes "my.db" ∷ codes "127.0.0.1:0" ∷ [])
unfolding clap_on_literals
without_connections = (refl, refl)

after_dashes : IsTaken (codes "post" ∷ codes "--" ∷ codes "-my.db" ∷ [])
unfolding clap_on_literals
after_dashes = (refl, refl)

help_of_drive : AsksForHelp (codes "bank" ∷ codes "drive" ∷ codes "my.db" ∷ codes "--help" ∷ [])
unfolding clap_on_literals
help_of_drive = refl

help_of_help : AsksForHelp (codes "bank" ∷ codes "help" ∷ codes "--help" ∷ [])
unfolding clap_on_literals
help_of_help = refl
