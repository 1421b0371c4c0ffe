-- One byte more.
use Rattle.std.proofs.Common.{◌≡◌, ◌+◌, ◌++◌, ◌<◌, ◌≤◌, ◌==◌, ◌∙◌, ℕ, Bool, true, false, List, [], ◌∷◌, length}
use Rattle.std.proofs.Common.{append-nil, append_assoc, ap, arith, drop, get_or, refl, subst, sym}
use Rattle.std.specs.Prelude.{IsTrue, if◌then◌else◌}
use Rattle.std.proofs.lemmas.{Bool.and_parts, List.drop_more, List.drop_all}
use Rattle.csv.specs.Writing.{default_writer, escaped}
use Rattle.message_records.specs.believed.Records.{is_printable}
use Rattle.posting_sheets.proofs.Printable.{one_is_ascii}
use Rattle.posting_sheets.proofs.quoting.push_escaped.Goals as goal

escaped_first : (b : ℕ) (rest : List ℕ)
    → escaped default_writer (b ∷ rest) ≡ escaped default_writer (b ∷ []) ++ escaped default_writer rest
unfolding escaped
escaped_first b rest = go (b == 34)
  where
    go : (q : Bool) → (if q then 34 ∷ b ∷ escaped default_writer rest else b ∷ escaped default_writer rest)
        ≡ (if q then 34 ∷ b ∷ [] else b ∷ []) ++ escaped default_writer rest
    go true = refl
    go false = refl

escaped_more : (text : List ℕ) (i : ℕ) → i < length text → escaped default_writer (drop i text)
    ≡ escaped default_writer (get_or text i 0 ∷ []) ++ escaped default_writer (drop (i + 1) text)
escaped_more text i low =
    ap (escaped default_writer) (drop_more text i 0 low) ∙ escaped_first (get_or text i 0) (drop (i + 1) text)

pub push_escaped_byte-requires : goal.push_escaped_byte-requires
push_escaped_byte-requires c =
    let text = c.args.text.now in
    let i = c.loop-byte.byte-index in
    let low = c.loop-byte-test.true in
    let left = ap length (drop_more text i 0 low) in
    record {
      ascii = one_is_ascii text i low c.loop-byte.invariant.printable;
      room = omega (arith, left, c.loop-byte.invariant.room, c.requires.room);
    }

pub loop-byte-preserved : goal.loop-byte-preserved
loop-byte-preserved c =
    let text = c.args.text.now in
    let i = c.loop-byte.byte-index in
    let low = c.loop-byte-test.true in
    let it = c.loop-byte.invariant in
    let line = c.loop-byte.line.bytes in
    let one = escaped default_writer (get_or text i 0 ∷ []) in
    let rest = escaped default_writer (drop (i + 1) text) in
    let left = ap length (drop_more text i 0 low) in
    let all = subst (λ (l : List ℕ). IsTrue (is_printable l)) (drop_more text i 0 low) it.printable in
    record {
      bytes = ap (λ (l : List ℕ). l ++ rest) c.push_escaped_byte.ensures.bytes ∙ append_assoc line one rest
          ∙ ap (λ (l : List ℕ). line ++ l) (sym (escaped_more text i low)) ∙ it.bytes;
      printable = (and_parts _ _ all).1;
      room = omega (arith, left, c.push_escaped_byte.ensures.len, it.room);
    }

none_left : (text : List ℕ) (i : ℕ) → length text ≤ i → escaped default_writer (drop i text) ≡ []
unfolding escaped
none_left text i over = ap (escaped default_writer) (drop_all i text over)

pub returns-clause-bytes : goal.returns-clause-bytes
returns-clause-bytes c =
    let line = c.loop-byte.line.bytes in
    sym (append-nil line)
    ∙ ap (λ (l : List ℕ). line ++ l) (sym (none_left c.args.text.now c.loop-byte.byte-index c.loop-byte-test.false))
    ∙ c.loop-byte.invariant.bytes
