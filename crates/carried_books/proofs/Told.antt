-- Reads of a bank, one after another, of which a fault tells why.
use Rattle.std.proofs.Common.{◌≡◌, Result, Ok, Err, refl, sym, subst}
use Rattle.std.specs.Prelude.{IfErr, OnOk}
use Rattle.sqlite.specs.{Effect.Database, State.HasCleanDisk}
use Rattle.sqlite_trees.specs.declared.store.Store.{Ghosts}
use Rattle.posting_rules.specs.declared.fault.{Fault.Fault, Fault.TheVariants.Memory}
use Rattle.posting_rules.specs.believed.Tables.{Tables}
use Rattle.store_rows.specs.believed.View.{Shows}
use Rattle.bank_store.specs.{believed.Seen.database_of, believed.Seen.file_of, Walks.IsStill, declared.bank.Bank.Bank}
use Rattle.bank_replays.proofs.{Read.none_read, Read.read_any, Read.read_fails, Read.read_then}
use Rattle.bank_replays.proofs.Whys.{why_err, why_memory, why_none, why_then}
use Rattle.bank_replays.specs.declared.fault.ReplayFault.{TheVariants.Bank as OfBank}
use Rattle.carried_books.specs.ReadsTold.{ReadsTold, told_of}

module _ {S : Type 0} {g : Ghosts S} where
  -- nothing was read
  pub told_none : {X E : Type 0} {fault_of : E → Fault} (bank : Bank S g) (x : X) → ReadsTold g fault_of bank bank (Ok x)
  told_none bank x = record { bank = none_read bank (Ok x); why = why_none x }

  -- nor was it where this fault is another bank's
  pub told_other : {X E : Type 0} {fault_of : E → Fault} (bank : Bank S g) (e : E) → fault_of e ≡ Memory
      → ReadsTold {X = X} g fault_of bank bank (Err e)
  told_other bank e is = record { bank = none_read bank (Err e); why = why_memory e is }

  -- whatever is made of what was read well
  pub told_any : {X Y E F : Type 0} {fault_of : E → Fault} {fault_of' : F → Fault} {old new : Bank S g} {x : X}
      → ReadsTold g fault_of old new (Ok x) → (y : Y) → ReadsTold g fault_of' old new (Ok y)
  told_any told y = record { bank = read_any told.bank (Ok y); why = why_none y }

  -- a fault in other words
  pub told_fails : {X Y E F : Type 0} {fault_of : E → Fault} {fault_of' : F → Fault} {old new : Bank S g} {e : E}
      (e' : F) → fault_of e ≡ fault_of' e' → ReadsTold {X = X} g fault_of old new (Err e)
      → ReadsTold {X = Y} g fault_of' old new (Err e')
  told_fails {e = e} e' same told = record { bank = read_fails e' told.bank; why = why_err e e' same told.why }

  -- another bank's fault came after what was read well
  pub told_beside : {X Y E F : Type 0} {fault_of : E → Fault} {fault_of' : F → Fault} {old new : Bank S g} {x : X}
      → ReadsTold g fault_of old new (Ok x) → (e : F) → fault_of' e ≡ Memory
      → ReadsTold {X = Y} g fault_of' old new (Err e)
  told_beside told e is = record { bank = read_any told.bank (Err e); why = why_memory e is }

  -- a read more
  pub told_then : {X Y E F : Type 0} {fault_of : E → Fault} {fault_of' : F → Fault} {old mid new : Bank S g} {x : X}
      {r : Result Y F} → ReadsTold g fault_of old mid (Ok x) → ReadsTold g fault_of' mid new r
      → ReadsTold g fault_of' old new r
  told_then one two = record { bank = read_then one.bank two.bank; why = why_then one.bank two.bank two.why }

  -- then came what has no fault of this bank, but for want of memory
  pub told_last : {X Y E F : Type 0} {fault_of : E → Fault} {fault_of' : F → Fault} {old new : Bank S g} {x : X}
      → ReadsTold g fault_of old new (Ok x) → (r : Result Y F) → IfErr r (λ e. fault_of' e ≡ Memory)
      → ReadsTold g fault_of' old new r
  told_last told (Ok y) memory = told_any told y
  told_last told (Err e) memory = told_beside told e memory

  -- what a bank showed before a read it shows after it
  pub shows_later : {X E : Type 0} {fault_of : E → Fault} {old mid : Bank S g} {x : X}
      → ReadsTold g fault_of old mid (Ok x) → HasCleanDisk (file_of mid) → (t : Tables) → Shows (database_of g old) t
      → Shows (database_of g mid) t
  shows_later told clean t shows = subst (λ (db : Database). Shows db t) (sym (told.bank.still clean).0) shows

  -- and what it shows after one it showed before
  pub shown_before : {X E : Type 0} {fault_of : E → Fault} {old new : Bank S g} {x : X} {r : Result X E}
      → ReadsTold g fault_of old new r → r ≡ Ok x → HasCleanDisk (file_of new) → (t : Tables)
      → Shows (database_of g new) t → Shows (database_of g old) t
  shown_before {old = old} {new = new} told is clean t shows =
      subst (λ (db : Database). Shows db t)
      (subst (λ r. OnOk r (IsStill (file_of old) (file_of new))) is (told.bank.still clean)).0 shows

-- ---- what was refused memory

pub told_ok : {X E : Type 0} (P : Type 0) (r : Result X E) → OnOk r P → OnOk (told_of r) P
told_ok P (Ok x) p = p
told_ok P (Err e) p = tt

pub told_refuses : {X E : Type 0} (r : Result X E) → IfErr (told_of r) (λ fault. fault ≡ OfBank Memory)
told_refuses (Ok x) = tt
told_refuses (Err e) = refl
