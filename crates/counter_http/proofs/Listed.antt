-- The lines of the open branches, one after another, and what the bank did meanwhile.
use Rattle.std.proofs.Common.{lit<, Bool, false, ◌≡◌, ℕ, zero, suc, ◌-◌, ◌<◌, ◌≤◌, inl, inr, List, [], ◌∷◌, ◌++◌}
use Rattle.std.proofs.Common.{length, Option, Some, None, refl, sym, ap, ◌∙◌, append_assoc, append-nil, arith, Ok}
use Rattle.std.specs.Prelude.{codes, ℤ, pos, negsuc, replicate}
use Rattle.std.proofs.lemmas.{Bool.cases_lt, Bool.le-ltb, Str.encode_ascii}
use Rattle.posting_rules.specs.declared.{counter.BranchLine.BranchLine, fault.Fault.Fault}
use Rattle.posting_rules.specs.declared.{fault.Fault.TheVariants.Memory, limits.TheConstants.LAST_BRANCH}
use Rattle.posting_rules.specs.{Branches.IsNextBranch, Counter.StaysByTables}
use Rattle.posting_rules.specs.believed.Commands.{Command, opened, Terms, opened_with}
use Rattle.posting_rules.specs.believed.Counter.{Seen, IsCounterCall, Takes, Refuses}
use Rattle.posting_rules.proofs.CounterCalls.{Takes-append, call_idle_after}
use Rattle.posting_core.proofs.{ByTables.stays_then}
use Rattle.std.specs.{List.repeat, Int.is_negative}
use lib.IntN.{nat_abs}
use lib.Utf8.{encode}
use Rattle.std.specs.Fmt.{padded_integral, format_spec, decimal, signed_decimal, char_count}
use Rattle.counter_http.specs.believed.Answers.{right_in, branch_line, line_if_open, lines_up_to}
use Rattle.counter_http.specs.believed.Answers.{balance_line, branch_lines, plan_line, plan_lines, plan_names}
use Rattle.counter_http.specs.Listing.{listed, listed_line, names_of, shown_line}
use Rattle.counter_http.specs.declared.lines.Listing.{Listing}
use Rattle.counter_http.specs.declared.lines.Listing.TheVariants.{Balances, Plan}
use Rattle.counter_http.specs.Turns.{IsRefusedAt}

-- ---- what the bank did so far: it answered calls that change nothing

pub record Asking {C : Type 0} (seen : C → Seen) (old now : C) : Type 0 where
  pub honest : (seen now).honest → (seen old).honest
  pub up : (seen now).is_down → (seen old).is_down
  pub takes : Takes (seen old) (seen now) []
  pub stays : StaysByTables (seen old) (seen now)
  pub idle : (seen old).is_down → now ≡ old

-- one call more
pub asking_more : {C K X : Type 0} (seen : C → Seen) (contents : C → K) (reason : Fault → C → C → Type 0)
    (old now new : C) (x : X) → Asking seen old now
    → IsCounterCall seen contents reason now new [] (Ok x) → StaysByTables (seen now) (seen new) → Asking seen old new
asking_more seen contents reason old now new x a call stays = record {
  honest = λ h. a.honest (call.honest h);
  up = λ d. absurd (call.up d);
  takes = Takes-append (seen old) (seen now) (seen new) [] [] a.takes call.done call.honest;
  stays = stays_then (seen old) (seen now) (seen new) call.honest a.stays stays;
  idle = call_idle_after seen old now a.idle contents reason new [] (Ok x) call;
}

-- the next one was refused
pub asking_refused : {C : Type 0} (seen : C → Seen) (old now new : C) (fault : Fault) → Asking seen old now
    → Refuses fault (seen now) (seen new) [] → ((seen new).honest → (seen now).honest)
    → IsRefusedAt seen old new fault []
asking_refused seen old now new fault a refuses honest =
    record {
      stood = now;
      honest_first = a.honest;
      honest = honest;
      up = a.up;
      takes = a.takes;
      stays = a.stays;
      refuses = refuses;
    }

-- memory for what it answered was refused
pub asking_full : {C : Type 0} (seen : C → Seen) (old now : C) → Asking seen old now
    → IsRefusedAt seen old now Memory []
asking_full seen old now a = record {
  stood = now;
  honest_first = a.honest;
  honest = λ h. h;
  up = a.up;
  takes = a.takes;
  stays = a.stays;
  refuses = record { tables = λ t h. h; down = λ d. d; left = λ remains left. (remains, left, λ t h. h) };
}

-- ---- lines

-- no branch above one and below another is open
abbrev NoneBetween : List Command → ℕ → ℕ → Type 0
NoneBetween log low high = (b : ℕ) → low < b → b < high → opened log b ≡ None

skipped : (each : ℕ → Terms → List ℕ) (log : List Command) (low high n : ℕ) → NoneBetween log low high → low ≤ n
    → n < high → lines_up_to each log n ≡ lines_up_to each log low
skipped each log low high zero none le lt = ap (lines_up_to each log) (let e : 0 ≡ low = omega arith in e)
skipped each log low high (suc m) none le lt = elim (cases_lt low (suc m)) [
  | inl more ↦
      let closed : opened log (suc m) ≡ None = none (suc m) more lt in
      ap (λ (o : Option Terms). lines_up_to each log m ++ line_if_open (each (suc m)) o) closed
      ∙ append-nil (lines_up_to each log m) ∙ skipped each log low high m none (omega arith) (omega arith)
  | inr ge ↦ ap (lines_up_to each log) (let e : suc m ≡ low = omega arith in e)
]

at_branch : (each : ℕ → Terms → List ℕ) (log : List Command) (b : ℕ) (terms : Terms) → 0 < b
    → opened log b ≡ Some terms → lines_up_to each log b ≡ lines_up_to each log (b - 1) ++ each b terms
at_branch each log zero terms some e = absurd (omega arith)
at_branch each log (suc m) terms some e =
    let less : m ≡ suc m - 1 = omega arith in
    ap (λ (o : Option Terms). lines_up_to each log m ++ line_if_open (each (suc m)) o) e
    ∙ ap (λ (k : ℕ). lines_up_to each log k ++ each (suc m) terms) less

shown_as : (listing : Listing) (log : List Command) (after : ℕ) (line : BranchLine) → IsNextBranch log after (Some line)
    → listed_line listing log line.branch (opened_with line.accounts line.floor) ≡ shown_line listing line
shown_as Balances log after line is = ap (branch_line line.branch line.accounts) (sym is.balance)
shown_as Plan log after line is = refl

next_line : (listing : Listing) (log : List Command) (after : ℕ) (line : BranchLine)
    → IsNextBranch log after (Some line)
    → lines_up_to (listed_line listing log) log line.branch
    ≡ lines_up_to (listed_line listing log) log after ++ shown_line listing line
next_line listing log after line is =
    let low : after < line.branch = is.above in
    let each = listed_line listing log in
    at_branch each log line.branch (opened_with line.accounts line.floor) (omega arith) is.terms
    ∙ ap (λ (t : List ℕ). lines_up_to each log (line.branch - 1) ++ t) (shown_as listing log after line is)
    ∙ ap (λ (t : List ℕ). t ++ shown_line listing line)
    (skipped each log after line.branch (line.branch - 1) is.none_between (omega arith) (omega arith))

-- one line more
pub line_more : (listing : Listing) (log : List Command) (after : ℕ) (line : BranchLine)
    → IsNextBranch log after (Some line) → (text : List ℕ) → text ≡ shown_line listing line
    → lines_up_to (listed_line listing log) log after ++ text
    ≡ lines_up_to (listed_line listing log) log line.branch
line_more listing log after line is text same =
    ap (λ (t : List ℕ). lines_up_to (listed_line listing log) log after ++ t) same
    ∙ sym (next_line listing log after line is)

balances_listed : (log : List Command) (after : ℕ) → IsNextBranch log after None → after ≤ LAST_BRANCH
    → lines_up_to (balance_line log) log after ≡ branch_lines log
unfolding branch_lines
balances_listed log after none le =
    sym (skipped (balance_line log) log after (suc LAST_BRANCH) LAST_BRANCH (λ b low high. none b low) le (omega arith))

plan_listed : (log : List Command) (after : ℕ) → IsNextBranch log after None → after ≤ LAST_BRANCH
    → plan_names ++ lines_up_to plan_line log after ≡ plan_lines log
unfolding plan_lines
plan_listed log after none le =
    ap (λ (t : List ℕ). plan_names ++ t)
    (sym (skipped plan_line log after (suc LAST_BRANCH) LAST_BRANCH (λ b low high. none b low) le (omega arith)))

pub all_listed : (listing : Listing) (log : List Command) (after : ℕ) → IsNextBranch log after None
    → after ≤ LAST_BRANCH
    → names_of listing ++ lines_up_to (listed_line listing log) log after ≡ listed listing log
all_listed Balances log after none le = balances_listed log after none le
all_listed Plan log after none le = plan_listed log after none le

-- ---- a number, right in so many places

spaces_are : (n : ℕ) → repeat {A = ℕ} n (32 ∷ []) ≡ replicate {A = ℕ} n 32
spaces_are zero = refl
spaces_are (suc n) = ap (λ (t : List ℕ). 32 ∷ t) (spaces_are n)

filled : (n : ℕ) → repeat n (encode 32) ≡ replicate n 32
filled n = ap (λ (t : List ℕ). repeat n t) (encode_ascii 32 (lit< tt)) ∙ spaces_are n

lay : (d s : List ℕ) (m m' z : ℕ) → m' ≡ m → z ≡ 0
    → ((repeat m' (encode 32) ++ s) ++ []) ++ [] ++ (d ++ repeat z (encode 32)) ≡ replicate m 32 ++ (s ++ d)
lay d s m m' z e f = rw (e, f, filled m) (simp (append_assoc, append-nil))

-- as a format prints it
pub right_printed : (n k : ℕ)
    → padded_integral (format_spec 32 3 0 n 18446744073709551615) false [] (decimal k)
    ≡ right_in n (decimal k)
unfolding padded_integral char_count
right_printed n k =
    let d = length (decimal k) in
    lay (decimal k) [] (n - d) (n - d - 0 - 0) (n - d - 0 - 0 - (n - d - 0 - 0)) (omega arith) (omega arith)

right_signed : (n : ℕ) (z : ℤ)
    → padded_integral (format_spec 32 3 0 n 18446744073709551615) (is_negative z) [] (decimal (nat_abs z))
    ≡ right_in n (signed_decimal z)
unfolding padded_integral char_count
right_signed n (pos k) =
    let plus : is_negative (pos k) ≡ false = le-ltb k 0 (omega arith) in
    ap (λ (b : Bool). padded_integral (format_spec 32 3 0 n 18446744073709551615) b [] (decimal k)) plus
    ∙ right_printed n k
right_signed n (negsuc k) =
    let d = length (decimal (suc k)) in
    lay (decimal (suc k)) (45 ∷ []) (n - suc d) (n - d - 1 - 0) (n - d - 1 - 0 - (n - d - 1 - 0))
    (omega arith) (omega arith)

pub line_text : (b a : ℕ) (z y : ℤ) → y ≡ z
    → padded_integral (format_spec 32 3 0 6 18446744073709551615) false [] (decimal b)
    ++ (32 ∷ (padded_integral (format_spec 32 3 0 7 18446744073709551615) false [] (decimal a)
    ++ (32 ∷ (padded_integral (format_spec 32 3 0 14 18446744073709551615) (is_negative y) []
    (decimal (nat_abs y)) ++ (10 ∷ []))))) ≡ branch_line b a z
line_text b a z y e =
    rw (e, right_printed 6 b, right_printed 7 a, right_signed 14 z)
    (six (right_in 6 (decimal b)) (32 ∷ []) (right_in 7 (decimal a)) (32 ∷ [])
    (right_in 14 (signed_decimal z)) (10 ∷ []))
  where
    six : (p s q u r l : List ℕ) → p ++ (s ++ (q ++ (u ++ (r ++ l)))) ≡ p ++ s ++ q ++ u ++ r ++ l
    six p s q u r l = simp append_assoc

-- ---- the lines of a plan

five : (p s q u r l : List ℕ) → p ++ (s ++ (q ++ (u ++ (r ++ l)))) ≡ p ++ s ++ q ++ u ++ r ++ l
five p s q u r l = simp append_assoc

pub plan_text : (b a k : ℕ) (z y : ℤ) → k ≡ b → y ≡ z
    → decimal k ++ (codes "," ++ (decimal a ++ (codes "," ++ (signed_decimal y ++ codes "\n"))))
    ≡ plan_line b (opened_with a (Some z))
plan_text b a k z y f e =
    rw (f, e) (five (decimal b) (codes ",") (decimal a) (codes ",") (signed_decimal z) (codes "\n"))

pub plan_text_bare : (b a k : ℕ) → k ≡ b
    → decimal k ++ (codes "," ++ (decimal a ++ codes ",\n")) ≡ plan_line b (opened_with a None)
plan_text_bare b a k f = rw f (five (decimal b) (codes ",") (decimal a) (codes ",") [] (codes "\n"))

-- of an account or a teller
pub holder_text : (word : List ℕ) (a b : ℕ) (z y : ℤ) → b ≡ a → y ≡ z
    → word ++ (decimal b ++ (codes " balance " ++ (signed_decimal y ++ codes "\n")))
    ≡ word ++ decimal a ++ codes " balance " ++ signed_decimal z ++ codes "\n"
holder_text word a b z y f e =
    rw (f, e) (four word (decimal a) (codes " balance ") (signed_decimal z) (codes "\n"))
  where
    four : (p d q s l : List ℕ) → p ++ (d ++ (q ++ (s ++ l))) ≡ p ++ d ++ q ++ s ++ l
    four p d q s l = simp append_assoc
