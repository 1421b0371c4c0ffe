-- The lines of an account's postings, one after another, and its sums.
use Rattle.std.proofs.Common.{◌≡◌, ◌++◌, ℕ, List, [], ◌∷◌, map, Option, Result, Ok, Err}
use Rattle.std.proofs.Common.{refl, sym, ap, subst, ◌∙◌, inl, inr, append_assoc}
use Rattle.std.specs.Prelude.{ℤ, ◌+ℤ◌}
use Rattle.std.specs.Io.KnownBytes.{Appends}
use Rattle.std.proofs.{KnownBytes.Appends-trans}
use Rattle.std.proofs.lemmas.List.{map-append}
use Rattle.posting_rules.specs.declared.fault.Fault.TheVariants.{Damaged, Down, Memory, Store}
use Rattle.posting_rules.specs.declared.fault.Rule.TheVariants.{Balance}
use Rattle.walked_rows.specs.{declared.stated.StatedPosting.StatedPosting, Pairs.Pair}
use Rattle.walked_rows.specs.Stored.{stated_pair}
use Rattle.report_contents.specs.{Lines.text_of}
use Rattle.report_contents.specs.StatementText.{line_of}
use Rattle.report_contents.specs.declared.{form.Form.Form, range_sums.RangeSums.RangeSums}
use Rattle.report_contents.proofs.Joined.{text_of-snoc}
use Rattle.report_contents.proofs.Written.{same_all, same_part, then_part, whole_part}
use Rattle.bank_reports.specs.declared.fault.ReportFault.{ReportFault}
use Rattle.bank_reports.specs.declared.fault.ReportFault.TheVariants.{Write, Bank, NoAccount}
use Rattle.bank_reports.specs.declared.visitors.Lines.{Lines}
use Rattle.bank_reports.specs.Postings.{Why, WhyRead, WritesLine, WritesText, delta_of, form_lines, sum_of}
use Rattle.bank_reports.specs.Refusals.{IsRefusal}
use Rattle.bank_reports.specs.Visitors.{EndsReading, HasAdded, HasLined, RefusesLine, VisitsPostings, never_refused}
use Rattle.bank_reports.proofs.Lined.{lines-snoc, sum_of-snoc}

-- an error is the same whatever it stands in place of
pub error_is : {A E : Type 0} (e f : E) → (let r : Result A E = Err e in r) ≡ Err f → e ≡ f
error_is {A} {E} e f same = ap error_in same
  where
    error_in : Result A E → E
    error_in (Ok x) = f
    error_in (Err x) = x

-- the text of one more
pub text_more : (form : Form) (given : List StatedPosting) (r : StatedPosting)
    → text_of (form_lines form given) ++ line_of form r (sum_of given +ℤ delta_of r)
    ≡ text_of (form_lines form (given ++ r ∷ []))
text_more form given r =
    sym (text_of-snoc (form_lines form given) (line_of form r (sum_of given +ℤ delta_of r)))
    ∙ ap text_of (sym (lines-snoc (line_of form) given r))

-- ---- one more line

module _ {first now : Lines} {old mid new : Option (List ℕ)} {given : List StatedPosting} (r : StatedPosting)
    (it : HasLined first old given now mid) where
  -- it was written
  pub one_line : (later : Lines) → later.form ≡ now.form
      → WritesLine now.form r now.balance mid new (Ok later.balance) → HasLined first old (given ++ r ∷ []) later new
  one_line later same wrote =
      let balance : later.balance ≡ sum_of given +ℤ delta_of r = wrote.0
      ∙ ap (λ (z : ℤ). z +ℤ delta_of r) it.balance in
      record {
        form = same ∙ it.form;
        wrote = same_all old new (text_more first.form given r)
            (Appends-trans old mid new _ _ it.wrote
            (same_all mid new (ap (λ (f : Form). line_of f r later.balance) it.form ∙ ap (line_of first.form r) balance)
            wrote.1));
        balance = balance ∙ sym (sum_of-snoc given r);
      }

  -- it wasn't, or not all of it
  pub line_refused : (fault : ReportFault) → WritesLine now.form r now.balance mid new (Err fault)
      → RefusesLine first old given r fault new
  line_refused fault ended = record {
    before = mid;
    wrote = it.wrote;
    ended = subst (λ (f : Form). WritesLine f r (sum_of given) mid new (Err fault)) it.form
        (subst (λ (z : ℤ). WritesLine now.form r z mid new (Err fault)) it.balance ended);
  }

-- a line ends so alone
pub line_refusal : (form : Form) (r : StatedPosting) (before : ℤ) (old new : Option (List ℕ)) (fault : ReportFault)
    → WritesLine form r before old new (Err fault) → IsRefusal ⊥ fault
line_refusal form r before old new Write ended = tt
line_refusal form r before old new (Bank (Damaged Balance)) ended = tt
line_refusal form r before old new other ended = absurd ended

-- ---- all of them

-- of these rows the first were given and the rest weren't, and the lines of those that were given were
-- written
pub record WritesPostings (form : Form) (all : List Pair) (old new : Option (List ℕ))
    (result : Result (Unit {0}) ReportFault) : Type 0 where
  pub given : List StatedPosting
  pub rest : List Pair
  pub are : map stated_pair given ++ rest ≡ all
  pub why : Why given rest result
  pub wrote : WritesText (text_of (form_lines form given)) old new result

-- one more was given, and one less is to come
pub are_more : {all : List Pair} (given : List StatedPosting) (r : StatedPosting) (coming left : List Pair)
    → coming ≡ stated_pair r ∷ left → map stated_pair given ++ coming ≡ all
    → map stated_pair (given ++ r ∷ []) ++ left ≡ all
are_more given r coming left is are =
    ap (λ l. l ++ left) (map-append stated_pair given (r ∷ []))
    ∙ append_assoc (map stated_pair given) (stated_pair r ∷ []) left
    ∙ ap (λ l. map stated_pair given ++ l) (sym is) ∙ are

-- a line that ended it
line_err : (form : Form) (all : List Pair) (old : Option (List ℕ)) (given : List StatedPosting)
    (coming left : List Pair) (mid new : Option (List ℕ)) (r : StatedPosting)
    → coming ≡ stated_pair r ∷ left → map stated_pair given ++ coming ≡ all
    → Appends old mid (text_of (form_lines form given)) → (fault : ReportFault)
    → WritesLine form r (sum_of given) mid new (Err fault) → WritesPostings form all old new (Err fault)
line_err form all old given coming left mid new r is are before Write wrote = record {
  given = given ++ r ∷ [];
  rest = left;
  are = are_more given r coming left is are;
  why = tt;
  wrote = same_part old new (text_more form given r) (then_part old mid new _ _ before wrote);
}
line_err form all old given coming left mid new r is are before (Bank (Damaged Balance)) wrote = record {
  given = given;
  rest = coming;
  are = are;
  why = inr (refl, (r, left, is, wrote.1));
  wrote = whole_part old new _
      (subst (λ (o : Option (List ℕ)). Appends old o (text_of (form_lines form given))) (sym wrote.0) before);
}
line_err form all old given coming left mid new r is are before other wrote = absurd wrote

-- why no more was read is why no more was given
pub why_read : (given : List StatedPosting) (rest : List Pair) (r : Result (Unit {0}) ReportFault)
    → WhyRead given rest r → Why given rest r
why_read given rest (Ok done) why = why
why_read given rest (Err NoAccount) why = absurd why
why_read given rest (Err Write) why = tt
why_read given rest (Err (Bank Memory)) why = absurd why
why_read given rest (Err (Bank Store)) why = tt
why_read given rest (Err (Bank Down)) why = tt
why_read given rest (Err (Bank (Damaged rule))) why = inl why

-- all of a text, whatever ended it
text_by : (text : List ℕ) (old new : Option (List ℕ)) (result : Result (Unit {0}) ReportFault) → Appends old new text
    → WritesText text old new result
text_by text old new (Ok done) wrote = wrote
text_by text old new (Err fault) wrote = whole_part old new text wrote

lines_told : (first now : Lines) (all : List Pair) (old new : Option (List ℕ))
    (result : Result (Unit {0}) ReportFault) → VisitsPostings HasLined RefusesLine first now all old new result
    → WritesPostings first.form all old new result
lines_told first now all old new result it = elim it.ends [
  | inl read ↦ record {
    given = it.given;
    rest = it.rest;
    are = it.are;
    why = why_read it.given it.rest result read.why;
    wrote = text_by _ old new result read.visited.wrote;
  }
  | inr ended ↦ subst (λ r. WritesPostings first.form all old new r) (sym ended.is)
      (line_err first.form all old it.given it.rest ended.more ended.refusal.before new ended.row ended.next it.are
      ended.refusal.wrote ended.fault ended.refusal.ended)
]

-- visits for the lines in a form wrote these
pub lines_in : {form : Form} {first now : Lines} {all : List Pair} {old new : Option (List ℕ)}
    {result : Result (Unit {0}) ReportFault} → first.form ≡ form
    → VisitsPostings HasLined RefusesLine first now all old new result → WritesPostings form all old new result
lines_in {form} {first} {now} {all} {old} {new} {result} same it =
    subst (λ (f : Form). WritesPostings f all old new result) same (lines_told first now all old new result it)

-- visits for sums refuse none
pub sums_read : {first now : RangeSums} {all : List Pair} {old new : Option (List ℕ)}
    {result : Result (Unit {0}) ReportFault} (it : VisitsPostings HasAdded never_refused first now all old new result)
    → EndsReading (HasAdded first) old new now it.given it.rest result
sums_read it = elim it.ends [ inl read ↦ read | inr ended ↦ absurd ended.refusal ]
