-- What is told of the statements of all accounts of a bank that shows a log.
use Rattle.std.proofs.Common.{◌≡◌, ◌<◌, ◌+◌, ◌++◌, ℕ, Bool, true, false, cond, List, [], ◌∷◌, length, map}
use Rattle.std.proofs.Common.{Option, Result, Ok, Err, refl, sym, ap, subst, ◌∙◌, append-nil, inl, inr, arith}
use Rattle.std.specs.Prelude.{ℤ, pos, ◌+ℤ◌, ◌==◌, ◌&&◌, nat_abs}
use Rattle.std.specs.{List.AllByRecursion, Io.KnownBytes.Appends, Ordering.int_eq}
use Rattle.std.proofs.lemmas.{Int.ints, List.Elements.All-from_recursion, List.Elements.filter-append}
use Rattle.message_records.specs.declared.limits.TheConstants.{MAX_BALANCE}
use Rattle.posting_rules.specs.declared.fault.{Rule.Rule, Rule.TheVariants.Balance}
use Rattle.posting_rules.specs.declared.fault.Fault.TheVariants.{Damaged, Memory}
use Rattle.posting_rules.specs.believed.Commands.{Command, AreCommands}
use Rattle.posting_rules.specs.believed.Entries.{DecidedRequest, decided, is_posted}
use Rattle.posting_rules.proofs.SoundEntries.{AreSound, are_sound}
use Rattle.walked_rows.specs.{Pairs.Pair, Stored.stated_pair, declared.stated.StatedPosting.StatedPosting}
use Rattle.walked_rows.proofs.{RisingRows.all-append, Unbroken.all_after}
use Rattle.report_contents.specs.AllStatements.{AreStatements, EndAtBalance, is_posting_of, postings_of, statements_text}
use Rattle.report_contents.specs.Written.{AppendsPart}
use Rattle.report_contents.specs.declared.query.Query.{Query}
use Rattle.report_contents.proofs.Written.{nothing_written}
use Rattle.bank_reports.specs.declared.fault.ReportFault.{ReportFault}
use Rattle.bank_reports.specs.declared.fault.ReportFault.TheVariants.{Bank, Write}
use Rattle.bank_reports.specs.AllPostings.{IsNoAccount, IsOfAccount, StopsAtAccount, WhyUngathered}
use Rattle.bank_reports.specs.AllPostings.{WritesGathered, WritesStatements}
use Rattle.bank_reports.specs.Postings.{delta_of, sum_of}
use Rattle.bank_reports.specs.StatedLines.{all_postings, postings_to, stated_of}
use Rattle.bank_reports.proofs.{ByAccount.listing, Further.error_is, LogHistory.each_within, ReportEnds.not_ok}
use Rattle.bank_reports.proofs.Lined.{AllRunWithin, never_beyond, runs_within}
use Rattle.bank_reports.proofs.OnLogs.{one_entry, prefix}
use Rattle.bank_reports.proofs.StatementReports.{first_head, no_stop}

-- ---- the postings after a log

-- each is of an account
all_numbers : (es : List DecidedRequest) → AreSound es → AllByRecursion IsOfAccount (all_postings es)
all_numbers [] sound = tt
all_numbers (e ∷ es) sound = last (is_posted e) (all_numbers es sound.2)
  where
    last : (b : Bool) → AllByRecursion IsOfAccount (all_postings es)
        → AllByRecursion IsOfAccount (cond b (all_postings es ++ stated_of (length es + 1) e ∷ []) (all_postings es))
    last true earlier =
        all-append IsOfAccount (all_postings es) (stated_of (length es + 1) e ∷ []) earlier (
          (
            omega (arith, ints, sound.0.request.account_above),
            omega (arith, ints, sound.0.request.account),
          ),
          tt,
        )
    last false earlier = earlier

-- those of an account are its own
own_postings : (a : ℕ) (es : List DecidedRequest) → postings_of a (all_postings es) ≡ postings_to a es
own_postings a [] = refl
own_postings a (e ∷ es) = posted (is_posted e) (e.request.account == a) (mine e.request.account a) (own_postings a es)
  where
    s : StatedPosting
    s = stated_of (length es + 1) e

    mine : (m k : ℕ) → int_eq (pos m) (pos k) ≡ (m == k)
    mine m k = grind (arith, ints)

    posted : (b c : Bool) → is_posting_of a s ≡ c → postings_of a (all_postings es) ≡ postings_to a es
        → postings_of a (cond b (all_postings es ++ s ∷ []) (all_postings es))
        ≡ cond (b && c) (postings_to a es ++ s ∷ []) (postings_to a es)
    posted false c is earlier = earlier
    posted true true is earlier =
        filter-append (is_posting_of a) (all_postings es) (s ∷ [])
        ∙ ap (λ b. postings_of a (all_postings es) ++ cond b (s ∷ []) []) is ∙ ap (λ l. l ++ s ∷ []) earlier
    posted true false is earlier =
        filter-append (is_posting_of a) (all_postings es) (s ∷ [])
        ∙ ap (λ b. postings_of a (all_postings es) ++ cond b (s ∷ []) []) is
        ∙ append-nil (postings_of a (all_postings es)) ∙ earlier

module _ (log : List Command) (are : AreCommands log) (query : Query) where
  abbrev ps : List StatedPosting
  ps = all_postings (decided log)

  numbers : AllByRecursion IsOfAccount ps
  numbers = all_numbers (decided log) (are_sound log are)

  -- there is a text of their statements
  pub some_text : (text : List ℕ) × AreStatements query ps text
  some_text =
      let it = listing query.selection ps (All-from_recursion IsOfAccount ps numbers) in
      (statements_text query ps it.0, record { accounts = it.0; listed = it.1; is = refl })

  -- no running balance is out of its limits
  no_end : (text : List ℕ) → EndAtBalance query ps text → ⊥
  no_end text it =
      let own : postings_to it.account (decided log) ≡ it.given ++ it.next ∷ it.more =
      sym (own_postings it.account (decided log)) ∙ it.are in
      let zero : sum_of it.given ≡ pos 0 +ℤ sum_of it.given = omega (arith, ints) in
      never_beyond (pos 0) it.given it.next it.more
      (subst (λ ss. AllRunWithin (pos 0) ss) own (runs_within it.account (decided log) (each_within log it.account)))
      (subst (λ (z : ℤ). MAX_BALANCE < nat_abs (z +ℤ delta_of it.next)) zero it.beyond)

  not_no_account : (s : StatedPosting) → IsOfAccount s → IsNoAccount s.posting.account → ⊥
  not_no_account s is (inl low) = omega (arith, ints, low, is.0)
  not_no_account s is (inr high) = omega (arith, ints, high, is.1)

  module _ (gathered more : List StatedPosting) (is : ps ≡ gathered ++ more) where
    no_account : (left : List StatedPosting) → left ≡ more → (rest : List Pair) → rest ≡ map stated_pair left
        → StopsAtAccount rest → ⊥
    no_account [] same rest read stops = absurd (let e = sym stops.2 ∙ read in cc)
    no_account (s ∷ left) same rest read stops =
        let e : stops.0 ≡ s =
        one_entry stops.0 s
        (first_head (stated_pair stops.0) (stated_pair s) stops.1 (map stated_pair left) (sym stops.2 ∙ read)) in
        let all = all_after IsOfAccount gathered more (subst (λ ss. AllByRecursion IsOfAccount ss) is numbers) in
        let after : AllByRecursion IsOfAccount (s ∷ left) = subst (λ ss. AllByRecursion IsOfAccount ss) (sym same) all in
        not_no_account s after.0 (subst (λ (x : StatedPosting). IsNoAccount x.posting.account) e stops.3)

    -- all are gathered, or nothing is damaged
    no_damage : (rest : List Pair) → rest ≡ map stated_pair more → (rule : Rule)
        → WhyUngathered gathered rest (Bank (Damaged rule)) → ⊥
    no_damage rest read rule (inl stop) = no_stop is_posted log are gathered more is rest rule read stop
    no_damage rest read rule (inr none) = no_account more refl rest read none.1

  all_gathered : (gathered more : List StatedPosting) → ps ≡ gathered ++ more → [] ≡ map stated_pair more → gathered ≡ ps
  all_gathered gathered [] is none = sym (append-nil gathered) ∙ sym is
  all_gathered gathered (s ∷ more) is none = absurd cc

  module _ (all : List Pair) (rows : all ≡ map stated_pair ps) (old new : Option (List ℕ)) where
    parts : {end : Result (Unit {0}) ReportFault} (w : WritesStatements query all old new end)
        → (more : List StatedPosting) × (ps ≡ w.gathered ++ more) × (w.rest ≡ map stated_pair more)
    parts w = prefix w.gathered ps w.rest (w.are ∙ rows)

    gathered_are : {end : Result (Unit {0}) ReportFault} (w : WritesStatements query all old new end) → w.rest ≡ []
        → w.gathered ≡ ps
    gathered_are w none = let b = parts w in all_gathered w.gathered b.0 b.1 (sym none ∙ b.2)

    pub all_whole : WritesStatements query all old new (Ok tt)
        → (text : List ℕ) × AreStatements query ps text × Appends old new text
    all_whole w = elim w.ends [
      | inl written ↦ subst (λ rs. (text : List ℕ) × AreStatements query rs text × Appends old new text)
          (gathered_are w written.0) written.1
      | inr ended ↦ absurd (not_ok _ _ _ refl ended.1)
    ]

    part_of_gathered : (fault : ReportFault) → WritesGathered query ps old new (Err fault)
        → (text : List ℕ) × AreStatements query ps text × AppendsPart old new text
    part_of_gathered Write written = written
    part_of_gathered (Bank (Damaged Balance)) written = absurd (no_end written.0 written.1)
    part_of_gathered (Bank Memory) silent = nothing silent
      where
        nothing : new ≡ old → (text : List ℕ) × AreStatements query ps text × AppendsPart old new text
        nothing same = (
          some_text.0,
          some_text.1,
          subst (λ (o : Option (List ℕ)). AppendsPart old o some_text.0) (sym same) (nothing_written old some_text.0),
        )
    part_of_gathered other never = absurd never

    pub all_part : (fault : ReportFault) → WritesStatements query all old new (Err fault)
        → (text : List ℕ) × AreStatements query ps text × AppendsPart old new text
    all_part fault w = elim w.ends [
      | inl written ↦ part_of_gathered fault
          (subst (λ rs. WritesGathered query rs old new (Err fault)) (gathered_are w written.0) written.1)
      | inr ended ↦ (
        some_text.0,
        some_text.1,
        subst (λ (o : Option (List ℕ)). AppendsPart old o some_text.0) (sym ended.3) (nothing_written old some_text.0),
      )
    ]

    damage_of_gathered : (rule : Rule) → WritesGathered query ps old new (Err (Bank (Damaged rule))) → ⊥
    damage_of_gathered Balance written = no_end written.0 written.1
    damage_of_gathered other never = never

    pub all_sound : (rule : Rule) → WritesStatements query all old new (Err (Bank (Damaged rule))) → ⊥
    all_sound rule w = elim w.ends [
      | inl written ↦ damage_of_gathered rule
          (subst (λ rs. WritesGathered query rs old new (Err (Bank (Damaged rule)))) (gathered_are w written.0) written.1)
      | inr ended ↦ let b = parts w in
          no_damage w.gathered b.0 b.1 w.rest b.2 rule
          (subst (λ (f : ReportFault). WhyUngathered w.gathered w.rest f) (sym (error_is _ _ ended.1)) ended.2)
    ]
