-- What clap's getters give, by the rows of its matches.
use Rattle.std.proofs.Common.{◌≡◌, ◌∙◌, List, ℕ, Option, Some, None, Result, Ok, Err, ap, ap₂, refl, sym}
use Rattle.std.specs.Prelude.{IfSome, option_map}
use Rattle.std.specs.Result.{result_ok}
use Rattle.std.specs.Str.Parse.{ExplainsUnsignedError, HasUnsignedDigitsIfOk, ParsesUnsigned}
use Rattle.std.specs.{declared.num.ParseIntError.ParseIntError}
use Rattle.clap.specs.Words.{ReadsOne, Row, Text, TriesOne, one_of, one_text, rows_of}
use Rattle.clap.specs.Words.{subcommand_name_of, subcommand_rows_of}
use Rattle.clap.specs.declared.parser.matches.{ArgMatches.ArgMatches, Found.Found, ArgMatches.TheViews.out-ArgMatches}
use Rattle.clap.proofs.WalkLemmas.{one_text-rows}
use Rattle.command_line.specs.CommandLine.{IsNumber, spelled}

-- one change after another
composed : {A B C : Type 0} (f : A → B) (g : B → C) (o : Option A)
    → option_map g (option_map f o) ≡ option_map (λ x. g (f x)) o
composed f g None = refl
composed f g (Some x) = refl

-- the subcommand of the matches, from its name and its rows
pub met_rows : (m : ArgMatches) (name : Text) (rows : List Row) → Some name ≡ subcommand_name_of m
    → Some rows ≡ option_map (λ p. p.1) (subcommand_rows_of m) → subcommand_rows_of m ≡ Some (name, rows)
met_rows m name rows named met = go (subcommand_rows_of m) named_by met
  where
    named_by : Some name ≡ option_map (λ p. p.0) (subcommand_rows_of m)
    named_by = named ∙ sym (composed _ (λ p. p.0) (out-ArgMatches m).subcommand)

    go : (o : Option (Text × List Row)) → Some name ≡ option_map (λ p. p.0) o
        → Some rows ≡ option_map (λ p. p.1) o
        → o ≡ Some (name, rows)
    go None named met = cc
    go (Some p) named met =
        let first : p.0 ≡ name = cc in
        let second : p.1 ≡ rows = cc in
        ap₂ (λ (n : Text) (r : List Row). Some (n, r)) first second

-- ---- numbers

-- what reading a `u64` says of a text
abbrev pub Gives : Text → Result ℕ ParseIntError → Type 0
Gives text r = ParsesUnsigned 64 10 text r × ExplainsUnsignedError 10 text r × HasUnsignedDigitsIfOk text r

-- `get_one` gives the number that the argument's value spells
pub number_read : (f : Found) (id : Text) (r : Option ℕ) → (one_text f id ≡ None → r ≡ None)
    → ((t : Text) → one_text f id ≡ Some t → ReadsOne Gives t r)
    → IfSome r (IsNumber id (rows_of f))
number_read f id None none reads = tt
number_read f id (Some n) none reads = go (one_of id (rows_of f)) refl
  where
    go : (o : Option Text) → one_of id (rows_of f) ≡ o → IsNumber id (rows_of f) n
    go None is = let bad : Some n ≡ None = none (one_text-rows f id ∙ is) in cc
    go (Some t) is = rw is (reads t (one_text-rows f id ∙ is)).0.1

-- what was read without an error
abbrev Read : Option ℕ → Result (Option ℕ) ParseIntError
Read n = Ok n

-- `try_get_one` gives it, or that there is no value
pub number_tried : (f : Found) (id : Text) (r : Result (Option ℕ) ParseIntError) (o : Option (Option ℕ))
    → (one_text f id ≡ None → r ≡ Ok None)
    → ((t : Text) → one_text f id ≡ Some t → TriesOne Gives t r)
    → o ≡ result_ok r
    → IfSome o (λ number. number ≡ spelled (one_of id (rows_of f)))
number_tried f id (Err e) o none reads is = rw is tt
number_tried f id (Ok n) o none reads is = rw is (go n (one_of id (rows_of f)) refl none reads)
  where
    go : (n : Option ℕ) (value : Option Text) → one_of id (rows_of f) ≡ value
        → (one_text f id ≡ None → Read n ≡ Ok None)
        → ((t : Text) → one_text f id ≡ Some t → TriesOne Gives t (Read n))
        → n ≡ spelled (one_of id (rows_of f))
    go n None value none reads =
        let same : Read n ≡ Ok None = none (one_text-rows f id ∙ value) in
        let left : n ≡ None = cc in
        left ∙ sym (ap spelled value)
    go None (Some t) value none reads = absurd (reads t (one_text-rows f id ∙ value))
    go (Some n) (Some t) value none reads =
        ap Some (reads t (one_text-rows f id ∙ value)).0.1 ∙ sym (ap spelled value)
