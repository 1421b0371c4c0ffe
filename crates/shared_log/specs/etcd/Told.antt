-- How the logic stores entries that exist only in proofs.
use Rattle.std.specs.Prelude.{ℕ, List}
use Rattle.std.specs.Coded.{Coded, coded_list, coded_ℕ}

abbrev pub entries_code : Coded (List (List ℕ))
entries_code = coded_list (coded_list coded_ℕ)
