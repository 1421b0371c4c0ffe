-- The lines of a plan, one branch more, and the whole text.
use Rattle.std.proofs.Common.{◌≡◌, ◌++◌, ℕ, pos, List, [], ◌∷◌, map, Option, Some, None, refl, sym, ap, subst, ◌∙◌}
use Rattle.std.proofs.Common.{append-nil, append_assoc, arith, inl, inr}
use Rattle.std.specs.{Prelude.option_map, Io.KnownBytes.Appends}
use Rattle.std.proofs.{KnownBytes.Appends-trans, lemmas.List.map-append}
use Rattle.posting_rules.specs.believed.Tables.{row_at}
use Rattle.sql_meanings.specs.believed.Entries.{Entry}
use Rattle.store_rows.proofs.RowLists.{found_row}
use Rattle.store_rows.specs.believed.Columns.{number_at}
use Rattle.walked_rows.specs.{Pairs.row_under, Stored.branch_entry, StoredBeside.floor_entry}
use Rattle.walked_rows.specs.{declared.branches.StoredBranch.StoredBranch, declared.floors.StoredFloor.StoredFloor}
use Rattle.report_contents.specs.{Lines.text_of, Written.AppendsPart}
use Rattle.report_contents.proofs.Joined.{text_of-append, text_of-snoc}
use Rattle.report_contents.proofs.Written.{first_part, same_part, then_part}
use Rattle.bank_replays.specs.Writing.{branch_of, lowest_of, plan_line, plan_lines, plan_names, plan_text}
use Rattle.bank_replays.specs.declared.fault.ReplayFault.{ReplayFault, TheVariants.Bank, TheVariants.Write}
use Rattle.bank_replays.specs.{Damaged.fault_in, Visiting.AsksMemory, Visiting.refused_of}
use Rattle.posting_rules.specs.declared.fault.Fault.{Fault, TheVariants.Memory}
use Rattle.std.specs.Prelude.{◌≢◌}
use Rattle.bank_replays.proofs.Wrote.{end_part, end_wrote}

-- a branch's floor is the one that the file has under its number
pub floor_is : (floors : List StoredFloor) (b : ℕ)
    → option_map lowest_of (row_at branch_of floors b)
    ≡ option_map (number_at 0) (row_under (map floor_entry floors) (pos b))
floor_is floors b =
    shown (row_at branch_of floors b)
    ∙ ap (option_map (number_at 0)) (sym (found_row branch_of floor_entry (λ r. refl) b floors))
  where
    shown : (x : Option StoredFloor)
        → option_map lowest_of x ≡ option_map (number_at 0) (option_map floor_entry x)
    shown None = refl
    shown (Some f) = refl

-- where memory for floors was at its end, there is one
pub some_floor : (rows : List StoredFloor) (next : Option StoredFloor) (fault : ReplayFault) → AsksMemory rows next fault
    → (rest floors : List Entry) → map floor_entry rows ++ (refused_of floor_entry next ++ rest) ≡ floors
    → fault_in fault ≡ Memory → floors ≢ []
some_floor rows next Write asks rest floors are is none = asks.0 refl
some_floor [] None (Bank fault) asks rest floors are is none =
    elim (asks.1 (ap (λ (f : Fault). let r : ReplayFault = Bank f in r) is)) [
      | inl some ↦ absurd (some refl)
      | inr many ↦ omega (arith, many)
    ]
some_floor [] (Some f) (Bank fault) asks rest floors are is none = cc
some_floor (r ∷ rows) next (Bank fault) asks rest floors are is none = cc

module _ (floors : List Entry) where
  lines-append : (xs ys : List Entry) → plan_lines floors (xs ++ ys) ≡ plan_lines floors xs ++ plan_lines floors ys
  lines-append xs ys =
      ap text_of (map-append (plan_line floors) xs ys)
      ∙ text_of-append (map (plan_line floors) xs) (map (plan_line floors) ys)

  -- the line of one
  pub one_line : (e : Entry) → plan_line floors e ≡ plan_lines floors (e ∷ [])
  one_line e = sym (append-nil (plan_line floors e))

  -- a branch more
  pub line_more : (rows : List StoredBranch) (row : StoredBranch)
      → plan_lines floors (map branch_entry rows) ++ plan_line floors (branch_entry row)
      ≡ plan_lines floors (map branch_entry (rows ++ row ∷ []))
  line_more rows row =
      sym (text_of-snoc (map (plan_line floors) (map branch_entry rows)) (plan_line floors (branch_entry row)))
      ∙ ap text_of (sym (map-append (plan_line floors) (map branch_entry rows) (branch_entry row ∷ [])))
      ∙ ap (plan_lines floors) (sym (map-append branch_entry rows (row ∷ [])))

-- ---- the text

module _ (old mid : Option (List ℕ)) (those floors items : List Entry) (branches : List Entry)
    (same : those ≡ floors) (names : Appends old mid plan_names) where
  -- the lines so far, and a part of the next
  pub plan_part : (new : Option (List ℕ)) (next rest : List Entry) → items ++ (next ++ rest) ≡ branches
      → AppendsPart mid new (plan_lines those items ++ plan_lines those next)
      → AppendsPart old new (plan_text floors branches)
  plan_part new next rest are part =
      then_part old mid new plan_names (plan_lines floors branches) names
      (same_part mid new
      (ap (λ (t : List ℕ). t ++ plan_lines those rest) (sym (lines-append those items next))
      ∙ sym (lines-append those (items ++ next) rest)
      ∙ ap (plan_lines those) (append_assoc items next rest ∙ are)
      ∙ ap (λ (l : List Entry). plan_lines l branches) same)
      (first_part mid new (plan_lines those items ++ plan_lines those next) (plan_lines those rest) part))

  module _ (late new : Option (List ℕ)) (are : items ≡ branches) (lines : Appends mid late (plan_lines those items))
    where
      all : Appends old late (plan_text floors branches)
      all = subst (λ (l : List ℕ). Appends old late (plan_names ++ l))
          (ap (plan_lines those) are ∙ ap (λ (l : List Entry). plan_lines l branches) same)
          (Appends-trans old mid late plan_names (plan_lines those items) names lines)

      -- all lines, and the end
      pub plan_all : Appends late new [] → Appends old new (plan_text floors branches)
      plan_all end = end_wrote old late new (plan_text floors branches) all end

      pub plan_end : AppendsPart late new [] → AppendsPart old new (plan_text floors branches)
      plan_end end = end_part old late new (plan_text floors branches) all end
