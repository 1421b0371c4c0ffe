-- The messages and the readings of the clock settle the answers.
use Rattle.std.proofs.Common.{◌≡◌, ℕ, Bool, true, false, List, [], ◌∷◌, ◌++◌, length, refl, sym, ap, ◌∙◌, append_assoc, arith}
use Rattle.posting_rules.specs.believed.{Commands.Command, Commands.Post, Runs.followed_by}
use Rattle.counter_http.specs.believed.Answers.{answer_of, asked_by, is_posting}
use Rattle.counter_http.specs.believed.Messages.{Message}
use Rattle.counter_http.specs.believed.Turns.{Turn, answers_to, commands_for, commands_if, commands_in, messages_of}
use Rattle.counter_http.specs.believed.Turns.{moments_in, moments_of, readings_if}

pub head_same : {X : Type 0} {x y : X} {xs ys : List X} → x ∷ xs ≡ y ∷ ys → x ≡ y
head_same is = cc

pub tail_same : {X : Type 0} {x y : X} {xs ys : List X} → x ∷ xs ≡ y ∷ ys → xs ≡ ys
tail_same is = cc

-- one message, and what is read of the clock after it
record Step (b : Bool) (m k : ℕ) (body p q : List ℕ) : Type 0 where
  pub commands : commands_if b m body ≡ commands_if b k body
  pub later : p ≡ q

step : (b : Bool) (m k : ℕ) (body p q : List ℕ) → readings_if b m ++ p ≡ readings_if b k ++ q → Step b m k body p q
step true m k body p q is = record {
  commands = ap (λ (n : ℕ). Post n body ∷ []) (head_same is);
  later = tail_same is;
}
step false m k body p q is = record { commands = refl; later = is }

pub same_answers : (log : List Command) (ts us : List Turn) (x y : List ℕ) → messages_of ts ≡ messages_of us
    → moments_of ts ++ x ≡ moments_of us ++ y → answers_to log ts ≡ answers_to log us
same_answers log [] [] x y same is = refl
same_answers log [] (u ∷ us) x y same is = absurd (let len = ap length same in omega (arith, len))
same_answers log (t ∷ ts) [] x y same is = absurd (let len = ap length same in omega (arith, len))
same_answers log (t ∷ ts) (u ∷ us) x y same is =
    let message : u.message ≡ t.message = sym (head_same same) in
    let asked = asked_by t.message in
    let readings : readings_if (is_posting asked) t.moment ++ (moments_of ts ++ x)
    ≡ readings_if (is_posting asked) u.moment ++ (moments_of us ++ y) =
    sym (append_assoc (moments_in t) (moments_of ts) x) ∙ is ∙ append_assoc (moments_in u) (moments_of us) y
    ∙ ap (λ (m : Message). readings_if (is_posting (asked_by m)) u.moment ++ (moments_of us ++ y)) message in
    let one = step (is_posting asked) t.moment u.moment asked.body (moments_of ts ++ x) (moments_of us ++ y) readings in
    let commands : commands_in t ≡ commands_in u =
    one.commands ∙ ap (λ (m : Message). commands_for u.moment (asked_by m)) (sym message) in
    ap (λ (xs : List (List ℕ)). answer_of log asked ∷ xs)
    (same_answers (followed_by log (commands_in t)) ts us x y (tail_same same) one.later)
    ∙ ap (λ (cs : List Command). answer_of log asked ∷ answers_to (followed_by log cs) us) commands
    ∙ ap (λ (m : Message). answer_of log (asked_by m) ∷ answers_to (followed_by log (commands_in u)) us) (sym message)
