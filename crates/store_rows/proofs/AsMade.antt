-- Whether a schema has a table as its text makes it.
use Rattle.std.proofs.Common.{◌≡◌, ◌≢◌, ◌≤◌, ℕ, zero, suc, List, [], ◌∷◌, length, take, slice_get, slice_index_or}
use Rattle.std.proofs.Common.{Option, Some, None, refl, sym, ap, subst, inl, inr, arith, pos, Bool}
use Rattle.std.specs.Bool.{Decides}
use Rattle.std.proofs.lemmas.Option.{get_or_from_slice_get}
use Rattle.sqlite.specs.Schema.{Schema}
use Rattle.sqlite.specs.Term.{Term, col, lit, op2}
use Rattle.sqlite.specs.Collation.TheVariants.{Binary as Plainly}
use Rattle.sqlite.specs.declared.types.Value.TheVariants.{Int, Null}
use Rattle.sqlite_sql.specs.declared.ops.BinaryOp.{BinaryOp}
use Rattle.sqlite_sql.specs.declared.ops.BinaryOp.TheVariants.{Compare}
use Rattle.sqlite_sql.specs.declared.ops.CompareOp.TheVariants.{Eq}
use Rattle.sqlite_schema.specs.Code.{op_term, term_in, term_to}
use Rattle.sqlite_schema.specs.declared.code.Op.{Op}
use Rattle.sqlite_schema.specs.declared.code.Op.TheVariants.{Literal, Column, Unary, Binary, Case}
use Rattle.sql_meanings.specs.believed.Tables.{Defines}
use Rattle.store_rows.specs.Definitions.{AreMade, IsFirstOther, TellsOther, key_is_one, made}
use Rattle.posting_rules.specs.declared.open_fault.BankTable.{BankTable}

-- ---- a CHECK

-- what is found at a place
found_at : (ops : List Op) (at : ℕ) (op : Op) → slice_get ops at ≡ Some op
    → slice_index_or ops at (Literal Null) ≡ op
found_at ops at op is = get_or_from_slice_get ops at op (Literal Null) is

-- what isn't the one that stands for none is there
there : (ops : List Op) (at : ℕ) (op : Op) → op ≢ Literal Null → slice_index_or ops at (Literal Null) ≡ op
    → slice_get ops at ≡ Some op
there [] at op other is = absurd (other (sym is))
there (o ∷ ops) zero op other is = ap Some is
there (o ∷ ops) (suc at) op other is = there ops at op other is

of_key : (below : ℕ → Term) (op : Op) → op_term below op ≡ col 1 0 → op ≡ Column 1 0
of_key below (Literal v) is = absurd cc
of_key below (Column slot at) is = cc
of_key below (Unary op a) is = absurd cc
of_key below (Binary op a b) is = absurd cc
of_key below (Case t a b) is = absurd cc

of_one : (below : ℕ → Term) (op : Op) → op_term below op ≡ lit (Int (pos 1)) → op ≡ Literal (Int (pos 1))
of_one below (Literal v) is = cc
of_one below (Column slot at) is = absurd cc
of_one below (Unary op a) is = absurd cc
of_one below (Binary op a b) is = absurd cc
of_one below (Case t a b) is = absurd cc

key_there : (ops : List Op) (depth at : ℕ) → term_to ops depth at ≡ col 1 0 → slice_get ops at ≡ Some (Column 1 0)
key_there ops zero at is = absurd cc
key_there ops (suc depth) at is = there ops at (Column 1 0) (λ same. cc) (of_key (term_to ops depth) _ is)

one_there : (ops : List Op) (depth at : ℕ) → term_to ops depth at ≡ lit (Int (pos 1))
    → slice_get ops at ≡ Some (Literal (Int (pos 1)))
one_there ops zero at is = absurd cc
one_there ops (suc depth) at is =
    there ops at (Literal (Int (pos 1))) (λ same. cc) (of_one (term_to ops depth) _ is)

-- where there are two at least
id_to : (ops : List Op) (depth root a b : ℕ) (op : BinaryOp) → slice_get ops root ≡ Some (Binary op a b)
    → op ≡ Compare Eq Plainly → slice_get ops a ≡ Some (Column 1 0)
    → slice_get ops b ≡ Some (Literal (Int (pos 1))) → term_to ops (suc (suc depth)) root ≡ key_is_one
id_to ops depth root a b op is equal key one =
    rw (found_at ops root _ is, found_at ops a _ key, found_at ops b _ one, equal) refl

two_deep : (ops : List Op) (depth root a b : ℕ) (op : BinaryOp) → 2 ≤ depth
    → slice_get ops root ≡ Some (Binary op a b)
    → op ≡ Compare Eq Plainly → slice_get ops a ≡ Some (Column 1 0)
    → slice_get ops b ≡ Some (Literal (Int (pos 1))) → term_to ops depth root ≡ key_is_one
two_deep ops zero root a b op deep is equal key one = absurd (omega (arith, deep))
two_deep ops (suc zero) root a b op deep is equal key one = absurd (omega (arith, deep))
two_deep ops (suc (suc depth)) root a b op deep is equal key one = id_to ops depth root a b op is equal key one

-- two places hold two
two_places : (ops : List Op) (root a : ℕ) (x y : Op) → x ≢ y → slice_get ops root ≡ Some x → slice_get ops a ≡ Some y
    → 2 ≤ length ops
two_places [] root a x y other is key = absurd cc
two_places (o ∷ []) zero zero x y other is key = let same : x ≡ y = cc in absurd (other same)
two_places (o ∷ []) zero (suc a) x y other is key = absurd cc
two_places (o ∷ []) (suc root) a x y other is key = absurd cc
two_places (o ∷ p ∷ ops) root a x y other is key = omega arith

reads_id : (ops : List Op) (root a b : ℕ) (op : BinaryOp) → slice_get ops root ≡ Some (Binary op a b)
    → op ≡ Compare Eq Plainly → slice_get ops a ≡ Some (Column 1 0)
    → slice_get ops b ≡ Some (Literal (Int (pos 1))) → term_in ops root ≡ key_is_one
reads_id ops root a b op is equal key one =
    two_deep ops (length ops) root a b op (two_places ops root a _ _ (λ same. cc) is key) is equal key one

-- the parts of such a term
id_parts : (ops : List Op) (depth root a b : ℕ) (op : BinaryOp) → slice_get ops root ≡ Some (Binary op a b)
    → term_to ops depth root ≡ key_is_one
    → (op ≡ Compare Eq Plainly) × (slice_get ops a ≡ Some (Column 1 0)) × (slice_get ops b ≡ Some (Literal (Int (pos 1))))
id_parts ops zero root a b op is whole = absurd cc
id_parts ops (suc depth) root a b op is whole =
    let same : op2 op (term_to ops depth a) (term_to ops depth b) ≡ key_is_one =
    subst (λ o. op_term (term_to ops depth) o ≡ key_is_one) (found_at ops root _ is) whole in
    let equal : op ≡ Compare Eq Plainly = cc in
    let key : term_to ops depth a ≡ col 1 0 = cc in
    let one : term_to ops depth b ≡ lit (Int (pos 1)) = cc in
    (equal, key_there ops depth a key, one_there ops depth b one)

id_read : (ops : List Op) (root a b : ℕ) (op : BinaryOp) → slice_get ops root ≡ Some (Binary op a b)
    → term_in ops root ≡ key_is_one
    → (op ≡ Compare Eq Plainly) × (slice_get ops a ≡ Some (Column 1 0)) × (slice_get ops b ≡ Some (Literal (Int (pos 1))))
id_read ops root a b op is whole = id_parts ops (length ops) root a b op is whole

-- the parts decide the term
pub decides_term : (ops : List Op) (root a b : ℕ) (op : BinaryOp) (r : Bool)
    → Decides r ((op ≡ Compare Eq Plainly) × (slice_get ops a ≡ Some (Column 1 0))
    × (slice_get ops b ≡ Some (Literal (Int (pos 1)))))
    → slice_get ops root ≡ Some (Binary op a b) → Decides r (term_in ops root ≡ key_is_one)
decides_term ops root a b op r parts is = (
  λ yes. let it = parts.0 yes in reads_id ops root a b op is it.0 it.1 it.2,
  λ whole. parts.1 (id_read ops root a b op is whole),
)

-- ---- one table after another

pub found_other : (schema : Schema) (ts : List BankTable) (n : ℕ) (t : BankTable) → slice_get ts n ≡ Some t
    → AreMade schema (take n ts) → ¬ Defines schema (made t) → IsFirstOther schema ts t
found_other schema [] n t is all other = absurd cc
found_other schema (u ∷ ts) zero t is all other =
    let same : u ≡ t = cc in inl (sym same, subst (λ t. ¬ Defines schema (made t)) (sym same) other)
found_other schema (u ∷ ts) (suc n) t is all other = inr (all.0, found_other schema ts n t is all.1 other)

-- one that is as made comes before these
pub after_first : (schema : Schema) (t : BankTable) (ts : List BankTable) (found : Option BankTable)
    → Defines schema (made t) → TellsOther schema ts found → TellsOther schema (t ∷ ts) found
after_first schema t ts None defined tells = (defined, tells)
after_first schema t ts (Some found) defined tells = inr (defined, tells)

-- where each is as made, none is another
pub none_other : (schema : Schema) (ts : List BankTable) (found : BankTable) → IsFirstOther schema ts found
    → AreMade schema ts → ⊥
none_other schema [] found other all = other
none_other schema (t ∷ ts) found (inl other) all = other.1 all.0
none_other schema (t ∷ ts) found (inr so) all = none_other schema ts found so.1 all.1
