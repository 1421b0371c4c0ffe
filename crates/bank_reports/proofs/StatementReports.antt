-- What is told of a statement of a bank that shows a log.
use Rattle.std.proofs.Common.{◌≡◌, ◌<◌, ◌≤◌, ◌+◌, ◌++◌, ℕ, Bool, true, false, cond, List, [], ◌∷◌, length, map}
use Rattle.std.proofs.Common.{Option, Some, None, Result, Ok, Err, refl, sym, ap, subst, ◌∙◌, append-nil, inl, inr, arith}
use Rattle.std.specs.Prelude.{ℤ, pos, ◌+ℤ◌, ◌-◌, ◌^◌, nat_abs, option_map, IfSome, IsSomeAnd}
use Rattle.std.specs.{List.AllByRecursion, Io.KnownBytes.Appends}
use Rattle.std.proofs.lemmas.{Int.ints, List.length-append}
use Rattle.message_records.proofs.References.{reference_again}
use Rattle.message_records.specs.Records.{IsReference}
use Rattle.message_records.specs.declared.limits.TheConstants.{MAX_BALANCE, MAX_MOMENT}
use Rattle.posting_rules.specs.declared.limits.TheConstants.{MAX_DECIDED}
use Rattle.posting_rules.specs.declared.fault.{Rule.Rule, Fault.TheVariants.Damaged}
use Rattle.posting_rules.specs.believed.Commands.{Command, AreCommands, is_account_open, opened}
use Rattle.posting_rules.specs.believed.Entries.{DecidedRequest, decided, account_balance, balance_after}
use Rattle.posting_rules.proofs.SoundEntries.{AreSound, are_sound, few_enough}
use Rattle.store_rows.specs.believed.SeveralRows.{given}
use Rattle.walked_rows.specs.{Pairs.Pair, References.BreaksReference, References.text_entry}
use Rattle.walked_rows.specs.Stored.{BreaksStated, stated_pair}
use Rattle.walked_rows.specs.declared.{stated.StatedPosting.StatedPosting}
use Rattle.walked_rows.proofs.{RisingRows.all-append, Unbroken.all_after, Unbroken.reads_posting}
use Rattle.report_contents.specs.Written.{AppendsPart}
use Rattle.report_contents.specs.StatementText.{form_for, part_of, stated_text, style_for}
use Rattle.report_contents.specs.declared.form.{Form.Form, Style.TheVariants.Sheet, Style.TheVariants.Whole}
use Rattle.report_contents.specs.declared.query.Layout.{Layout}
use Rattle.report_contents.specs.declared.query.Layout.TheVariants as layout
use Rattle.report_contents.specs.declared.query.{Query.Query, Selection.Selection}
use Rattle.report_contents.specs.declared.range.Range.{Range}
use Rattle.report_contents.proofs.Written.{first_part, nothing_written, same_all, same_part}
use Rattle.bank_reports.specs.declared.fault.ReportFault.{ReportFault, TheVariants.Bank}
use Rattle.bank_reports.specs.StatedLines.{form_after, is_posted_to, postings_that, postings_to, stated_of, statement_after}
use Rattle.bank_reports.specs.StatedLines.{statement_in}
use Rattle.bank_reports.specs.Postings.{StopsAtBalance, StopsAtRow, Why, WhyDamaged, WhyStopped, WritesLaid, WritesSelected}
use Rattle.bank_reports.specs.Postings.{WritesStatement}
use Rattle.bank_reports.specs.Postings.{delta_of, sum_of}
use Rattle.bank_reports.specs.Postings.{text_so_far}
use Rattle.bank_reports.proofs.{LogHistory.each_within}
use Rattle.bank_reports.proofs.Lined.{AllRunWithin, few_postings, never_beyond, runs_within}
use Rattle.bank_reports.proofs.OnLogs.{form_is, prefix, one_entry, text_begins, text_ends}
use Rattle.bank_reports.proofs.{Further.error_is, ReportEnds.not_ok}

-- ---- the rows can be read

abbrev IsReadable : StatedPosting → Type 0
IsReadable s = (1 ≤ s.posting.ordinal) × (s.posting.ordinal ≤ MAX_DECIDED) × (s.posting.moment ≤ MAX_MOMENT)
    × IfSome s.reference IsReference

readable : (test : DecidedRequest → Bool) (es : List DecidedRequest) → AreSound es
    → AllByRecursion IsReadable (postings_that test es)
readable test [] sound = tt
readable test (e ∷ es) sound = last (test e) (few_enough (e ∷ es) sound) (readable test es sound.2)
  where
    last : (b : Bool) → length (e ∷ es) ≤ MAX_DECIDED → AllByRecursion IsReadable (postings_that test es)
        → AllByRecursion IsReadable
        (cond b (postings_that test es ++ stated_of (length es + 1) e ∷ []) (postings_that test es))
    last true few earlier =
        all-append IsReadable (postings_that test es) (stated_of (length es + 1) e ∷ []) earlier
        ((omega arith, omega (arith, few), sound.0.moment, sound.0.request.reference), tt)
    last false few earlier = earlier

is_read : (o : ℕ) (broken : Rule) (reference : Option (List ℕ)) → IfSome reference IsReference
    → IsSomeAnd (option_map (text_entry o) reference) (BreaksReference broken) → ⊥
is_read o broken None can broke = broke
is_read o broken (Some text) can broke = let it = rw (reference_again text can) at broke in cc

not_broken : (s : StatedPosting) (broken : Rule) → IsReadable s → BreaksStated broken (stated_pair s) → ⊥
not_broken s broken can (inl own) =
    let it = sym (reads_posting s.posting can.0 can.1 can.2) ∙ own in cc
not_broken s broken can (inr beside) = is_read s.posting.ordinal broken s.reference can.3 beside

pub first_head : {X : Type 0} (x y : X) (xs ys : List X) → x ∷ xs ≡ y ∷ ys → x ≡ y
first_head {X} x y xs ys same = ap head same
  where
    head : List X → X
    head [] = x
    head (z ∷ zs) = z

-- ---- what is told of damage

module _ (test : DecidedRequest → Bool) (log : List Command) (are : AreCommands log) (given more : List StatedPosting)
    (is : postings_that test (decided log) ≡ given ++ more) where
  no_row : (left : List StatedPosting) → left ≡ more → (rest : List Pair) → rest ≡ map stated_pair left
      → (broken : Rule) → StopsAtRow rest broken → ⊥
  no_row [] same rest read broken stops = absurd (let e = sym stops.2 ∙ read in cc)
  no_row (s ∷ left) same rest read broken stops =
      let e : stops.0 ≡ stated_pair s =
      first_head stops.0 (stated_pair s) stops.1 (map stated_pair left) (sym stops.2 ∙ read) in
      let all = subst (λ ss. AllByRecursion IsReadable ss) is
      (readable test (decided log) (are_sound log are)) in
      let after : AllByRecursion IsReadable (s ∷ left) =
      subst (λ ss. AllByRecursion IsReadable ss) (sym same) (all_after IsReadable given more all) in
      not_broken s broken after.0 (subst (λ p. BreaksStated broken p) e stops.3)

  not_many : 2 ^ 64 - 1 ≤ length given → ⊥
  not_many many =
      let few = few_postings test (decided log) in
      let fewer = few_enough (decided log) (are_sound log are) in
      let count = ap (λ l. length l) is ∙ length-append given more in
      omega (arith, many, few, fewer, count)

  -- they are read to the end
  pub no_stop : (rest : List Pair) (rule : Rule) → rest ≡ map stated_pair more → WhyStopped given rest rule → ⊥
  no_stop rest rule read (inl row) = no_row more refl rest read rule row
  no_stop rest rule read (inr many) = not_many many.1

module _ (a : ℕ) (log : List Command) (are : AreCommands log) (given more : List StatedPosting)
    (is : postings_to a (decided log) ≡ given ++ more) where
  no_balance : (left : List StatedPosting) → left ≡ more → (rest : List Pair) → rest
      ≡ map stated_pair left → StopsAtBalance given rest → ⊥
  no_balance [] same rest read broken = absurd (let e = sym broken.2 ∙ read in cc)
  no_balance (s ∷ left) same rest read broken =
      let e : broken.0 ≡ s =
      one_entry broken.0 s
      (first_head (stated_pair broken.0) (stated_pair s) broken.1 (map stated_pair left)
      (sym broken.2 ∙ read)) in
      let all = runs_within a (decided log) (each_within log a) in
      let zero : sum_of given ≡ pos 0 +ℤ sum_of given = omega (arith, ints) in
      never_beyond (pos 0) given s left
      (subst (λ ss. AllRunWithin (pos 0) ss) (is ∙ ap (λ l. given ++ l) (sym same)) all)
      (subst (λ (z : ℤ). MAX_BALANCE < nat_abs (z +ℤ delta_of s)) zero
      (subst (λ (x : StatedPosting). MAX_BALANCE < nat_abs (sum_of given +ℤ delta_of x)) e broken.3))

  no_damage : (rest : List Pair) (rule : Rule) → rest ≡ map stated_pair more
      → WhyDamaged given rest rule → ⊥
  no_damage rest rule read (inl stop) = no_stop (is_posted_to a) log are given more is rest rule read stop
  no_damage rest rule read (inr balance) = no_balance more refl rest read balance.1

-- ---- what is told of the whole

-- an open account has its balance
pub balance_is : (log : List Command) (a : ℕ) (z : ℤ) → Some z ≡ balance_after log a → z
    ≡ account_balance (decided log) a
balance_is log a z is = by_test (is_account_open (λ b. opened log b) a) is
  where
    by_test : (b : Bool) → Some z ≡ cond b (Some (account_balance (decided log) a)) None → z
        ≡ account_balance (decided log) a
    by_test true same = cc
    by_test false same = absurd cc

-- the whole text of postings, and a prefix of it
module _ (a : ℕ) (form : Form) (ps : List StatedPosting) (all : List Pair) (rows : all ≡ map stated_pair ps)
    (old new : Option (List ℕ)) where
  form_whole : WritesStatement a form all old new (Ok tt) → Appends old new (stated_text a form ps)
  form_whole w =
      let b = prefix w.given ps w.rest (w.are ∙ rows) in
      same_all old new
      (ap (λ r. text_so_far a form w.given r) w.why ∙ text_ends a form w.given b.0 (sym w.why ∙ b.2)
      ∙ ap (λ (rs : List StatedPosting). stated_text a form rs) (sym b.1)) w.wrote

  form_part : (fault : ReportFault) → WritesStatement a form all old new (Err fault)
      → AppendsPart old new (stated_text a form ps)
  form_part fault w =
      let b = prefix w.given ps w.rest (w.are ∙ rows) in
      let it = text_begins a form w.given b.0 w.rest b.2 in
      same_part old new (it.1 ∙ ap (λ (rs : List StatedPosting). stated_text a form rs) (sym b.1))
      (first_part old new _ it.0 w.wrote)

-- all rows that were added are all postings
all_summed : (ps summed : List StatedPosting) (rest : List Pair) → map stated_pair summed ++ rest
    ≡ map stated_pair ps → rest ≡ [] → summed ≡ ps
all_summed ps summed rest are none =
    let b = prefix summed ps rest are in
    sym (b.1 ∙ (ap (λ l. summed ++ l) (empty b.0 (sym b.2 ∙ none)) ∙ append-nil summed))
  where
    empty : (more : List StatedPosting) → map stated_pair more ≡ [] → more ≡ []
    empty [] e = refl
    empty (s ∷ more) e = absurd cc

-- the text of all postings in the form of what is asked for is that of the log
selected_is : (a : ℕ) (log : List Command) (query : Query) (form : Form) → form ≡ form_after log a query
    → stated_text a form (postings_to a (decided log)) ≡ statement_after log a query
unfolding statement_after
selected_is a log query form is = form_is a log form ∙ ap (statement_in log a) is

-- the text of the statement of a log, in a form that is that of what is asked for
record Forms (a : ℕ) (balance : ℤ) (log : List Command) (selection : Selection) (layout : Layout) (range : Option Range)
    (text : List ℕ) : Type 0 where
  is : (rows : List StatedPosting) → rows ≡ postings_to a (decided log)
      → stated_text a (record { selection = selection; style = style_for layout range balance rows })
      (postings_to a (decided log)) ≡ text

module _ (a : ℕ) (balance : ℤ) (log : List Command) (is : balance ≡ account_balance (decided log) a)
    (all : List Pair)
    (rows : all ≡ map stated_pair (postings_to a (decided log))) (old new : Option (List ℕ)) where
  forms : (query : Query)
      → Forms a balance log query.selection query.layout query.selection.range (statement_after log a query)
  forms query = record {
    is = λ rs same. selected_is a log query _
        (ap (λ (z : ℤ). form_for query z rs) is ∙ ap (λ (ss : List StatedPosting).
        form_for query (account_balance (decided log) a) ss) same);
  }

  module _ (selection : Selection) (text : List ℕ) where
    -- the statement is that of the log
    laid_whole : (layout : Layout) (range : Option Range) → Forms a balance log selection layout range text
        → WritesLaid a balance selection layout range all old new (Ok tt) → Appends old new text
    laid_whole (layout.Sheet ahead) range f w =
        same_all old new (f.is _ refl)
        (form_whole a (record { selection = selection; style = Sheet ahead }) (postings_to a (decided log)) all rows old
        new w)
    laid_whole layout.Columns None f w =
        same_all old new (f.is _ refl)
        (form_whole a (record { selection = selection; style = Whole balance }) (postings_to a (decided log)) all rows old
        new w)
    laid_whole layout.Columns (Some range) f w = elim w.ends [
      | inl written ↦
          same_all old new
          (f.is w.summed (all_summed (postings_to a (decided log)) w.summed w.rest (w.are ∙ rows) written.0))
          (form_whole a (part_of selection range w.summed) (postings_to a (decided log)) all rows old new written.1)
      | inr ended ↦ absurd (not_ok _ _ _ refl ended.1)
    ]

    -- at a fault a prefix of it was written
    laid_part : (layout : Layout) (range : Option Range) (fault : ReportFault)
        → Forms a balance log selection layout range text
        → WritesLaid a balance selection layout range all old new (Err fault) → AppendsPart old new text
    laid_part (layout.Sheet ahead) range fault f w =
        same_part old new (f.is _ refl)
        (form_part a (record { selection = selection; style = Sheet ahead }) (postings_to a (decided log)) all rows old
        new fault w)
    laid_part layout.Columns None fault f w =
        same_part old new (f.is _ refl)
        (form_part a (record { selection = selection; style = Whole balance }) (postings_to a (decided log)) all rows old
        new fault w)
    laid_part layout.Columns (Some range) fault f w = elim w.ends [
      | inl written ↦
          same_part old new
          (f.is w.summed (all_summed (postings_to a (decided log)) w.summed w.rest (w.are ∙ rows) written.0))
          (form_part a (part_of selection range w.summed) (postings_to a (decided log)) all rows old new fault
          written.1)
      | inr ended ↦ subst (λ (o : Option (List ℕ)). AppendsPart old o text) (sym ended.3) (nothing_written old text)
    ]

  told_whole : (query : Query) → WritesSelected a balance query all old new (Ok tt)
      → Appends old new (statement_after log a query)
  told_whole query w =
      laid_whole query.selection (statement_after log a query) query.layout query.selection.range (forms query) w

  told_part : (query : Query) (fault : ReportFault) → WritesSelected a balance query all old new (Err fault)
      → AppendsPart old new (statement_after log a query)
  told_part query fault w =
      laid_part query.selection (statement_after log a query) query.layout query.selection.range fault (forms query) w

  -- no damage is told
  no_damage_in : AreCommands log → (given : List StatedPosting) (rest : List Pair) (rule : Rule)
      → map stated_pair given ++ rest ≡ all → WhyDamaged given rest rule → ⊥
  no_damage_in are given rest rule rows_are why =
      let b = prefix given (postings_to a (decided log)) rest (rows_are ∙ rows) in
      no_damage a log are given b.0 b.1 rest rule b.2 why

  laid_sound : AreCommands log → (selection : Selection) (layout : Layout) (range : Option Range) (rule : Rule)
      → WritesLaid a balance selection layout range all old new (Err (Bank (Damaged rule))) → ⊥
  laid_sound are selection (layout.Sheet ahead) range rule w = no_damage_in are w.given w.rest rule w.are w.why
  laid_sound are selection layout.Columns None rule w = no_damage_in are w.given w.rest rule w.are w.why
  laid_sound are selection layout.Columns (Some range) rule w = elim w.ends [
    | inl written ↦ no_damage_in are written.1.given written.1.rest rule written.1.are written.1.why
    | inr ended ↦ no_damage_in are w.summed w.rest rule w.are
        (subst (λ (f : ReportFault). Why w.summed w.rest (Err f)) (sym (error_is _ _ ended.1)) ended.2)
  ]

  told_sound : AreCommands log → (query : Query) (rule : Rule)
      → WritesSelected a balance query all old new (Err (Bank (Damaged rule))) → ⊥
  told_sound are query rule w = laid_sound are query.selection query.layout query.selection.range rule w

-- what is told of an account where the bank shows a log
pub record ToldOfLog (a : ℕ) (log : List Command) (query : Query) (old new : Option (List ℕ))
    (answer : Result (Unit {0}) ReportFault) : Type 0 where
  pub balance : ℤ
  pub is : Some balance ≡ balance_after log a
  pub all : List Pair
  pub rows : all ≡ map stated_pair (postings_to a (decided log))
  pub answers : WritesSelected a balance query all old new answer
  pub commands : AreCommands log

module _ {a : ℕ} {log : List Command} {query : Query} {old new : Option (List ℕ)}
    {answer : Result (Unit {0}) ReportFault}
    (it : ToldOfLog a log query old new answer) where
  as_told : (other : Result (Unit {0}) ReportFault) → answer ≡ other
      → WritesSelected a it.balance query it.all old new other
  as_told other is = subst (λ r. WritesSelected a it.balance query it.all old new r) is it.answers

  pub log_whole : answer ≡ Ok tt → Appends old new (statement_after log a query)
  log_whole is =
      told_whole a it.balance log (balance_is log a it.balance it.is) it.all it.rows old new query (as_told _ is)

  pub log_part : (fault : ReportFault) → answer ≡ Err fault → AppendsPart old new (statement_after log a query)
  log_part fault is =
      told_part a it.balance log (balance_is log a it.balance it.is) it.all it.rows old new query fault (as_told _ is)

  pub log_sound : (rule : Rule) → answer ≡ Err (Bank (Damaged rule)) → ⊥
  log_sound rule is =
      told_sound a it.balance log (balance_is log a it.balance it.is) it.all it.rows old new it.commands query rule
      (as_told _ is)
