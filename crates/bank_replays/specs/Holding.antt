-- Rows of each kind that break a rule are among those of a file.
use Rattle.std.proofs.Common.{ℕ, List, inl, inr, refl, subst}
use Rattle.store_rows.specs.believed.BankTables.{account, branch, closing, floor, history, meta, reference, request, teller}
use Rattle.walked_rows.specs.KeptRows.{BreaksKept, HasKept, KeptItem, kept_all, kept_item}
use Rattle.walked_rows.specs.References.{listed_of}
use Rattle.walked_rows.specs.Rows.{HasStoredRows}
use Rattle.walked_rows.specs.StepOutcomes.{BreaksBy}
use Rattle.walked_rows.specs.Stored.{account_of, branch_of, posting_of, request_of, teller_of}
use Rattle.walked_rows.specs.StoredBeside.{closing_of, floor_of, meta_of}
use Rattle.sqlite.specs.Effect.{Database}
use Rattle.posting_rules.specs.declared.fault.Rule.{Rule}
use Rattle.bank_replays.specs.{Damaged.AreHeld, Damaged.BreaksAnswered, Visiting.Bars}
use Rattle.bank_replays.specs.Refusing.{RefusesAfter, RefusesAnswered}
use Rattle.walked_rows.specs.Requests.{IsAnsweredRow}

pub metas_held : AreHeld (λ db rows. HasStoredRows db meta rows) (BreaksBy meta_of)
metas_held db f has = (f.metas, has.metas, λ rule h. inl h)

pub branches_held : AreHeld (λ db rows. HasStoredRows db branch rows) (BreaksBy branch_of)
branches_held db f has = (f.branches, has.branches, λ rule h. inr (inl h))

pub tellers_held : AreHeld (λ db rows. HasStoredRows db teller rows) (BreaksBy teller_of)
tellers_held db f has = (f.tellers, has.tellers, λ rule h. inr (inr (inl h)))

pub accounts_held : AreHeld (λ db rows. HasStoredRows db account rows) (BreaksBy account_of)
accounts_held db f has = (f.accounts, has.accounts, λ rule h. inr (inr (inr (inl h))))

pub history_held : AreHeld (λ db rows. HasStoredRows db history rows) (BreaksBy posting_of)
history_held db f has = (f.history, has.history, λ rule h. inr (inr (inr (inr (inl h)))))

pub requests_held : AreHeld (λ db rows. HasStoredRows db request rows) (BreaksBy request_of)
requests_held db f has = (f.requests, has.requests, λ rule h. inr (inr (inr (inr (inr (inl h))))))

pub floors_held : AreHeld (λ db rows. HasStoredRows db floor rows) (BreaksBy floor_of)
floors_held db f has = (f.floors, has.floors, λ rule h. inr (inr (inr (inr (inr (inr (inl h)))))))

pub references_held : AreHeld (λ db rows. HasStoredRows db reference rows) (BreaksBy listed_of)
references_held db f has = (f.references, has.references, λ rule h. inr (inr (inr (inr (inr (inr (inr (inl h))))))))

pub closings_held : AreHeld (λ db rows. HasStoredRows db closing rows) (BreaksBy closing_of)
closings_held db f has = (f.closings, has.closings, λ rule h. inr (inr (inr (inr (inr (inr (inr (inr (inl h)))))))))

-- ---- rows that are visited

-- where others that break it are held
module _ {X : Type 0} {HasItems : Database → List X → Type 0} {Breaks : Rule → X → Type 0}
    (held : AreHeld HasItems Breaks) where
  as_held : (Bad : Rule → X → Type 0) → ((rule : Rule) (x : X) → Bad rule x → Breaks rule x) → AreHeld HasItems Bad
  as_held Bad into db f has =
      let it = held db f has in
      (it.0, it.1, λ rule h. it.2 rule (h.0, h.1, h.2, h.3, into rule h.1 h.4))

  -- where none is refused
  pub bars_held : {R : Type 0} (item : R → X) → AreHeld HasItems (Bars item Breaks (λ rule r. ⊥))
  bars_held {R} item = as_held (Bars item Breaks (λ rule r. ⊥)) into
    where
      into : (rule : Rule) (x : X) → Bars item Breaks (λ rule r. ⊥) rule x → Breaks rule x
      into rule x (inl breaks) = breaks
      into rule x (inr refused) = absurd refused.2

-- ---- kept requests

pub kept_held : AreHeld HasKept BreaksAnswered
kept_held db f has = (
  kept_all f.history f.references f.requests,
  record {
    rows = f.requests;
    postings = f.history;
    references = f.references;
    has = has.requests;
    has_postings = has.history;
    has_references = has.references;
    are = refl;
  },
  λ rule h. inr (inr (inr (inr (inr (inr (inr (inr (inr h)))))))),
)

-- they can't be read
pub read_held : AreHeld HasKept BreaksKept
read_held = as_held kept_held BreaksKept (λ rule k breaks. inl breaks)

-- or are those of no request with its reply
pub answered_held : AreHeld HasKept (Bars kept_item BreaksKept RefusesAnswered)
answered_held = as_held kept_held (Bars kept_item BreaksKept RefusesAnswered) into
  where
    into : (rule : Rule) (k : KeptItem) → Bars kept_item BreaksKept RefusesAnswered rule k → BreaksAnswered rule k
    into rule k (inl breaks) = inl breaks
    into rule k (inr refused) =
        inr (refused.2.0, λ answered. refused.2.1 (subst IsAnsweredRow refused.1 answered))

-- or are no such ones as are written
pub after_held : (Is : KeptItem → Type 0) → ((k : KeptItem) → IsAnsweredRow k → Is k) → (after : ℕ)
    → AreHeld HasKept (Bars kept_item BreaksKept (RefusesAfter Is after))
after_held Is so after = as_held kept_held (Bars kept_item BreaksKept (RefusesAfter Is after)) into
  where
    into : (rule : Rule) (k : KeptItem) → Bars kept_item BreaksKept (RefusesAfter Is after) rule k → BreaksAnswered rule k
    into rule k (inl breaks) = inl breaks
    into rule k (inr refused) =
        inr (refused.2.0, λ answered. refused.2.2 (so (kept_item refused.0) (subst IsAnsweredRow refused.1 answered)))
