-- The error of a write inside a transaction: the text is no statement, the command tells it, or the store
-- failed.
use Rattle.sql_meanings.specs.Names.{ℕ, List, [], None, Some, Ok, Err, Bool, true, false, ⊤, Row, Command, Insert}
use Rattle.sql_meanings.specs.Names.{Update, CreateTable, understood, Does, State, mode_of, ExecutesIn, ExecutesInside}
use Rattle.sql_meanings.specs.Names.{IsNoStatement, IsNotRun, IsUnchanged, Fails, HasCause, shows_rows, text_of, Error}
use Rattle.sql_meanings.specs.Names.{Compiled, StoreError, OutOfMemory, Io, Corrupt, Full, Broken, Unstorable}
use Rattle.sql_meanings.proofs.Names.{inl, inr, append-nil, refl, ap, subst, ◌∙◌}
use Rattle.sqlite.specs.{Clock.timed, Effect.is_query}
use Rattle.sqlite.specs.State.{EndsScope, Escapes, IsMisplaced, RunsCommand, is_pragma}
use Rattle.std.specs.Prelude.{◌≡◌, ◌⊎◌, ◌&&◌, ◌||◌}

-- the command puts rows in, changes rows or makes a table
abbrev pub is_write : Command → Bool
is_write (Insert at from) = true
is_write (Update at q) = true
is_write CreateTable = true
is_write _ = false

-- the command refuses, and nothing has changed; or the store failed, or what is written can't be stored
abbrev pub Stops : State → State → List ℕ → Command → Row → Error → Type 0
Stops old new sql command params e =
    (Does old.step_limit (mode_of old) params old.now sql None command (Err (Some e)) × IsUnchanged old new)
    ⊎ Fails old new (Does old.step_limit (mode_of old) params old.now sql None command (Err None)) e

-- a failure of the store under another reason why a row can't be stored
pub fails_for : (old new : State) (e : Error) (P Q : Type 0) → (P → Q) → Fails old new P e → Fails old new Q e
fails_for old new e P Q then h = (h.0, h.1, cause h.0 h.2, h.3, h.4)
  where
    cause : (kind : StoreError) → HasCause old new P kind → HasCause old new Q kind
    cause OutOfMemory c = c
    cause Io c = c
    cause Corrupt c = c
    cause Full c = c
    cause Broken c = c
    cause Unstorable c = then c

-- a failure of the store, where a row can't be stored for one of two reasons
pub fails_split : (old new : State) (e : Error) (P Q : Type 0) → Fails old new (P ⊎ Q) e
    → Fails old new P e ⊎ (Q × Fails old new ⊤ e)
fails_split old new e P Q h = elim (cause h.0 h.2) [
  | inl first ↦ inl (h.0, h.1, first, h.3, h.4)
  | inr second ↦ inr (second.0, (h.0, h.1, second.1, h.3, h.4))
]
  where
    cause : (kind : StoreError) → HasCause old new (P ⊎ Q) kind
        → HasCause old new P kind ⊎ (Q × HasCause old new ⊤ kind)
    cause OutOfMemory c = inl c
    cause Io c = inl c
    cause Corrupt c = inl c
    cause Full c = inl c
    cause Broken c = inl c
    cause Unstorable (inl c) = inl c
    cause Unstorable (inr c) = inr (c, tt)

-- a write neither ends the transaction nor a savepoint
no_escape : (s : State) (command : Command) → is_write command ≡ true → ¬ Escapes 0 s command
no_escape s command write (inl (inl h)) = let e = ap is_write h in cc
no_escape s command write (inl (inr h)) = let e = ap is_write h in cc
no_escape s command write (inr (name, inl h, held)) = let e = ap is_write h in cc
no_escape s command write (inr (name, inr h, held)) = let e = ap is_write h in cc

placed : (s : State) (command : Command) (e : Error) → is_write command ≡ true → ¬ IsMisplaced s command e
placed s command e write (inl (is, inl h)) = let k = ap is_write h.0 in cc
placed s command e write (inl (is, inr (inl h, off))) = let k = ap is_write h in cc
placed s command e write (inl (is, inr (inr h, off))) = let k = ap is_write h in cc
placed s command e write (inr (is, name, inl h, none)) = let k = ap is_write h in cc
placed s command e write (inr (is, name, inr h, none)) = let k = ap is_write h in cc

shows_none : (c : Compiled) → is_write c.command ≡ true → c.returning ≡ None → shows_rows false c ≡ false
shows_none c write bare = rw bare (go c.command write)
  where
    go : (command : Command) → is_write command ≡ true
        → (is_query command || (true && (is_pragma command || false))) ≡ false
    go (Insert at from) h = refl
    go (Update at q) h = refl
    go CreateTable h = refl
    go _ h = absurd (let e = h in cc)

module _ (old new : State) (text : List ℕ) (params : Row) (command : Command)
    (write : is_write command ≡ true) (e : Error)
    (known : (c : Compiled) → understood old.now.schema text ≡ Ok c → (c.command ≡ command)
    × (c.returning ≡ None) × (c.formats ≡ []))
  where
    ran : (c : Compiled) → c.command ≡ command → c.returning ≡ None
        → RunsCommand old new text c params (Err e)
        → Stops old new (text_of text c) command params e
    ran c is bare (inl (inl misplaced, same)) = absurd
        (placed old c.command e (ap is_write is ∙ write) misplaced)
    ran c is bare (inl (inr does, same)) = inl (rw (is, bare) at does.1, same)
    ran c is bare (inr fails) = inr (rw (is, bare) at fails)

    -- how it may end
    pub stops : ExecutesInside 0 text params old new (Err e)
        → (IsNoStatement old text params e × IsUnchanged old new)
        ⊎ (Fails old new ⊥ e ⊎ ((c : Compiled) × (understood old.now.schema text ≡ Ok c)
        × Stops old new (text_of text c) command params e))
    unfolding ExecutesIn IsNotRun EndsScope
    stops (inl (inl (inl none), kept)) = inl none
    stops (inl (inl (inr fails), kept)) = inr (inl fails)
    stops (inl (inr (c, it, alone), kept)) =
        let facts = known c it.is in
        let full : timed params c.formats it.now ≡ params = rw facts.2 (append-nil params) in
        let runs = rw (shows_none c (ap is_write facts.0 ∙ write) facts.1) at alone in
        inr (inr (
          c,
          it.is,
          ran c facts.0 facts.1
              (subst (λ ps. RunsCommand old new text c ps (Err e)) full runs),
        ))
    stops (inr (ends, is, same)) =
        absurd (no_escape old ends.0.command (ap is_write (known ends.0 ends.1.is).0 ∙ write)
        (let x : Escapes 0 old ends.0.command = ends.2 in x))
