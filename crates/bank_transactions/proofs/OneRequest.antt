-- A single request that was looked up is answered by what the rows hold, whatever rows a file holds.
use Rattle.std.proofs.Common.{◌≡◌, ◌∙◌, ℕ, ℤ, Bool, true, false, cond, List, [], ◌∷◌, Option, Some, None, Ok}
use Rattle.std.proofs.Common.{refl, ap, subst}
use Rattle.std.specs.Prelude.{IsSome}
use Rattle.sqlite.specs.Effect.{Database}
use Rattle.message_records.specs.{believed.Reading.request_of, believed.Records.RequestFields}
use Rattle.message_records.specs.declared.records.Outcome.TheVariants.{ReusedNumber}
use Rattle.posting_rules.specs.believed.Cases.{case_of, is_same, kept_reply, known_case, teller_case}
use Rattle.posting_rules.specs.believed.Changes.{reply_bytes, reply_read, tables_after, tables_read}
use Rattle.posting_rules.specs.believed.Kept.{KeptFields}
use Rattle.posting_rules.specs.believed.{LookUps.found_in, Tables.Tables}
use Rattle.posting_rules.specs.declared.judgments.{Found.Found, Verdict.TheVariants.Again, Verdict.TheVariants.Unkept}
use Rattle.store_rows.specs.believed.Rules.{HoldsBank, StoredRows}
use Rattle.bank_transactions.specs.believed.Stored.{HasRead, HasStored, IsStoredFound, RepliesToAllStored, RepliesToStored}

-- a request that is kept changes nothing
module _ (t : Tables) (m : ℕ) (r : RequestFields) where
  again_same : (k : KeptFields) (is : Bool)
      → tables_after t m r (cond is (Again (kept_reply k r)) (Unkept ReusedNumber)) ≡ t
  again_same k true = refl
  again_same k false = refl

  known_same : (kept : Option KeptFields) (f : Found) (teller branch : ℤ) → IsSome kept
      → tables_after t m r (known_case kept f r teller branch) ≡ t
  known_same None f teller branch there = absurd cc
  known_same (Some k) f teller branch there = again_same k (is_same k r)

  teller_same : (teller : Option (ℤ × ℤ)) (f : Found) → IsSome f.kept
      → tables_after t m r (teller_case teller f r) ≡ t
  teller_same None f there = refl
  teller_same (Some balances) f there = known_same f.kept f balances.0 balances.1 there

  case_same : (f : Found) → IsSome f.kept → tables_after t m r (case_of f r) ≡ t
  unfolding case_of
  case_same f there = teller_same f.teller f there

module _ {old new : Database} {m : ℕ} {bytes reply : List ℕ} {r : RequestFields} (read : request_of bytes ≡ Ok r)
    (it : RepliesToAllStored old new m (bytes ∷ []) (reply ∷ [])) where
  abbrev its : Tables
  its = it.tables

  has : (rows : StoredRows) → HoldsBank old rows → HasStored rows its r
  has rows holds = subst (HasRead rows its) read (it.stored rows holds).0.0

  found_stored : IsStoredFound old r (found_in its r)
  found_stored = record {
    runs = its.closings;
    closed = it.closed;
    teller = record { found = λ rows holds. (has rows holds).teller; fits = λ rows holds. (has rows holds).teller_fits };
    account = record {
      found = λ rows holds. (has rows holds).account.found;
      fits = λ rows holds. (has rows holds).account.fits;
    };
    above = λ rows holds. (has rows holds).account.above;
    floor = λ rows holds. (has rows holds).floor;
    kept = λ rows holds. (has rows holds).kept;
    decided = λ rows holds. (it.stored rows holds).1;
    books = refl;
  }

  replied : reply ≡ reply_bytes its r
  replied = let first : reply ≡ reply_read its (request_of bytes) = (let are = it.are in cc) in
      first ∙ ap (reply_read its) read

  pub one_stored : RepliesToStored old new r reply
  one_stored = record {
    found = found_in its r;
    stored = found_stored;
    is = replied;
    stays = λ there. it.stays (ap (λ (u : Tables). u.decided)
        (ap (tables_read its m) read ∙ case_same its m r (found_in its r) there));
  }
