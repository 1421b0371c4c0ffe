-- Bytes that are printable.
use Rattle.std.proofs.Common.{◌≡◌, ◌<◌, ℕ, true, List, drop, get_or, length, ap, subst, arith}
use Rattle.std.specs.Prelude.{IsTrue, nat_le}
use Rattle.std.proofs.{lemmas.Bool.and_parts, lemmas.Bool.Decides.nat_tests, lemmas.Str.encode_ascii}
use Rattle.std.proofs.lemmas.List.{drop_more}
use Rattle.message_records.specs.believed.Records.{is_printable}
use lib.Utf8.{encode}

module _ (text : List ℕ) (i : ℕ) (low : i < length text) where
  -- it is ASCII
  pub one_is_ascii : IsTrue (is_printable (drop i text)) → get_or text i 0 < 128
  one_is_ascii all =
      let is = subst (λ l. IsTrue (is_printable l)) (drop_more text i 0 low) all in
      let within : nat_le (get_or text i 0) 126 ≡ true = (and_parts _ _ (and_parts _ _ is).0).1 in
      grind (arith, nat_tests)

-- a byte that is ASCII is one byte of a text
pub one_byte : (c : ℕ) → c < 128 → length (encode c) ≡ 1
one_byte c low = ap length (encode_ascii c low)
