-- What machines show of one log.
use Rattle.std.proofs.Common.{◌≡◌, ◌⊎◌, ◌++◌, ◌∙◌, ℕ, List, [], ◌∷◌, length, drop, Some, refl, sym, ap, subst, inl, inr, append_assoc}
use Rattle.std.proofs.lemmas.List.{drop_at}
use Rattle.std.specs.Prelude.{IfSome, get_or}
use Rattle.posting_rules.specs.believed.Commands.{Command}
use Rattle.posting_rules.specs.believed.Counter.{Seen, ShowsLog}
use Rattle.posting_rules.specs.believed.Runs.{followed_by}
use Rattle.posting_core.specs.believed.LogEntries.{log_entries}
use Rattle.shared_log.specs.Known.{Known}
use Rattle.shared_log.specs.Replicated.{replicated_seen}
use Rattle.shared_log.specs.Sharing.{AllAreHad, AnsweredAreShared, AreOfOneOrder, AreShared, Begins, Knows}
use Rattle.shared_log.specs.Sharing.{NoneIsAnsweredBehind}
use Rattle.shared_log.specs.declared.replicated.Replicated.{Replicated}
use Rattle.shared_log.proofs.Carried.{held_entries}

-- of two that come first in the same list, one comes first in the other
one_begins : (a b m n : List (List ℕ)) → a ++ m ≡ b ++ n → Begins a b ⊎ Begins b a
one_begins [] b m n same = inl (record { more = b; are = refl })
one_begins (x ∷ a) [] m n same = inr (record { more = x ∷ a; are = refl })
one_begins (x ∷ a) (y ∷ b) m n same =
    let first : x ≡ y = ap (λ (l : List (List ℕ)). get_or l 0 []) same in
    elim (one_begins a b m n (ap (λ (l : List (List ℕ)). drop 1 l) same)) [
      | inl it ↦ inl (record { more = it.more; are = ap (λ (z : List ℕ). z ∷ b) (sym first) ∙ ap (λ (l : List (List ℕ)). x ∷ l) it.are })
      | inr it ↦ inr (record { more = it.more; are = ap (λ (z : List ℕ). z ∷ a) first ∙ ap (λ (l : List (List ℕ)). y ∷ l) it.are })
    ]

-- so it is behind entries that both have
begins_behind : (front a b entries : List (List ℕ)) → Begins (front ++ a) entries → Begins (front ++ b) entries
    → Begins a b ⊎ Begins b a
begins_behind front a b entries one two =
    let same : front ++ (a ++ one.more) ≡ front ++ (b ++ two.more) =
    sym (append_assoc front a one.more) ∙ sym one.are ∙ two.are ∙ append_assoc front b two.more in
    one_begins a b one.more two.more
    (sym (drop_at front (a ++ one.more) (length front) refl) ∙ ap (drop (length front)) same
    ∙ drop_at front (b ++ two.more) (length front) refl)

module _ {C L : Type 0} (seen : C → Seen) (known : L → Known) where
  all_known : (r : Replicated C L) (log : List Command) (first : List (List ℕ))
      → ShowsLog (replicated_seen seen known r) log → known r.log ≡ Some first → log_entries log ≡ first
  all_known r log first s is =
      subst (λ (k : Known). IfSome k (λ entries. log_entries log ≡ entries)) is
      (held_entries (known r.log) s.tables log s.are.1 s.commands s.shows)

  shown : (r : Replicated C L) (log : List Command) (entries : List (List ℕ))
      → ShowsLog (replicated_seen seen known r) log → Knows (known r.log) entries → Begins (log_entries log) entries
  shown r log entries s k =
      subst (λ (l : List (List ℕ)). Begins l entries) (sym (all_known r log k.first s k.known_first)) k.begins

  pub are_shared : AreShared seen known
  are_shared r log entries it = shown r log entries it.shows it.knows

  pub answered_shared : AnsweredAreShared seen known
  answered_shared old new log commands entries it =
      shown new (followed_by log commands) entries (it.takes.shows it.honest log it.was) it.knows

  pub all_had : AllAreHad seen known
  all_had old new log commands entries it r all machine is =
      subst (λ (l : List (List ℕ)). Begins (log_entries (followed_by log commands)) l)
      (sym (all_known r all entries machine.shows is)) (answered_shared old new log commands entries it)

  pub none_behind : NoneIsAnsweredBehind seen known
  none_behind old new log commands entries others own it there are =
      begins_behind (log_entries log) others own entries there
      (subst (λ (l : List (List ℕ)). Begins l entries) are (answered_shared old new log commands entries it))

  pub one_order : AreOfOneOrder seen known
  one_order one two a b entries first second =
      let x = are_shared one a entries first in
      let y = are_shared two b entries second in
      one_begins (log_entries a) (log_entries b) x.more y.more (sym x.are ∙ y.are)
