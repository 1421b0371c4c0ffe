-- CREATE TABLE under any schema.
use Rattle.sql_meanings.specs.Names.{ℕ, not, List, [], length, Ok, Err, None, is_some, Bool, true, false, table_named}
use Rattle.sql_meanings.specs.Names.{index_named, view_named, Schema, Table, Parsed, CompileError, Compiled, Checked}
use Rattle.sql_meanings.specs.Names.{and_then, Name, compiled, first, planned, timed, meaning, returning, command}
use Rattle.sql_meanings.specs.Names.{create_table, creates, is_attached, is_reserved, with_command, understood}
use Rattle.sql_meanings.proofs.Names.{refl, sym, subst, ◌∙◌, inl, inr}
use Rattle.std.specs.Option.{option_or}
use Rattle.sqlite.specs.Command.TheVariants.{CreateTable as MakeTable, Nothing}
use Rattle.sqlite_ast.specs.declared.CreateTable.{CreateTable}
use Rattle.sqlite_resolve.specs.declared.error.CompileError.TheVariants.{Unsupported, Misuse, Exists}
use Rattle.sqlite.specs.Listing.{misses_table}
use Rattle.sql_meanings.specs.Making.{IsCreation}
use Rattle.sqlite_ast.specs.declared.Statement.TheVariants as written
use Rattle.sqlite_resolve.specs.Define as define
use Rattle.std.specs.Prelude.{◌≡◌, ◌==◌, ◌&&◌, if◌then◌else◌, ◌⊎◌}

-- it is made, or refused as a name that is taken
abbrev pub Outcome : {A : Type 0} → A → Checked A → Type 0
Outcome a r = (r ≡ Ok a) ⊎ ((e : CompileError) × (r ≡ Err e)
    × ((e ≡ Unsupported) ⊎ ((e ≡ Misuse) ⊎ (e ≡ Exists))))

module _ (schema : Schema) (formats : List Name) (def : CreateTable) (t : Table)
    (missing : def.if_missing ≡ false)
    (defined : define.table formats def ≡ Ok t)
    (stamped : (length t.computed == length t.stamps.places && not def.resolves) ≡ true) where
  made_by : (a r o s : Bool) → Outcome MakeTable (if a then Err Unsupported else
      and_then (if r then Err Misuse else (if o then Err Exists
      else (if s then (if false then Ok false else Err Exists) else Ok true)))
      (λ is_new.
      if is_new then and_then (define.table formats def)
      (λ t. if length t.computed == length t.stamps.places && not def.resolves then Ok MakeTable
      else Err Unsupported) else Ok
      Nothing))
  made_by true r o s = inr (Unsupported, refl, inl refl)
  made_by false true o s = inr (Misuse, refl, inr (inl refl))
  made_by false false true s = inr (Exists, refl, inr (inr refl))
  made_by false false false true = inr (Exists, refl, inr (inr refl))
  made_by false false false false = inl (rw (defined, stamped))

  -- the definition is taken, or refused as a name that is taken
  pub create_is : Outcome MakeTable (create_table schema formats def)
  unfolding create_table creates define.table define.unchecked
  create_is = rw missing (made_by (is_attached schema def.name) (is_reserved def.name)
      (is_some (index_named schema def.name))
      (is_some (option_or (table_named schema def.name) (view_named schema def.name))))

-- the whole text
pub compiled_create : (schema : Schema) (text : List ℕ) (P : Parsed) (def : CreateTable) (t : Table)
    → first text ≡ Ok P
    → P.statement ≡ written.CreateTable def → P.formats ≡ []
    → def.if_missing ≡ false → define.table [] def ≡ Ok t
    → (length t.computed == length t.stamps.places && not def.resolves) ≡ true
    → Outcome (with_command P ([], (MakeTable, None))) (compiled schema text)
unfolding compiled planned timed meaning returning command
compiled_create schema text P def t parsed is plain missing defined stamped =
    elim (create_is schema [] def t missing defined stamped) [
      | inl made ↦ inl (rw (parsed, is, plain, made))
      | inr refused ↦ inr (refused.0, rw (parsed, is, plain, refused.1), refused.2)
    ]

told_by : (schema : Schema) (text : List ℕ) (e : CompileError) → compiled schema text ≡ Err e
    → misses_table (Err e) ≡ false
    → understood schema text ≡ Err e
unfolding understood
told_by schema text e is other = rw (is, other)

-- what a text compiles to is what is understood, since no list of the schema is read
pub answers : (schema : Schema) (text : List ℕ) (c : Compiled) → Outcome c (compiled schema text)
    → Outcome c (understood schema text)
unfolding understood
answers schema text c (inl is) = inl (rw is)
answers schema text c (inr (e, is, inl k)) = inr (e, told_by schema text e is (rw k), inl k)
answers schema text c (inr (e, is, inr (inl k))) = inr (e, told_by schema text e is (rw k), inr (inl k))
answers schema text c (inr (e, is, inr (inr k))) = inr (e, told_by schema text e is (rw k), inr (inr k))

-- under the schema the text makes a table, or is refused
abbrev pub Makes : Schema → List ℕ → Type 0
Makes schema text = (c : Compiled) × Outcome c (understood schema text) × IsCreation text c

-- a CREATE TABLE that is understood is one, and its text is the whole
pub known : (text : List ℕ) (schema : Schema) (c : Compiled) → Makes schema text
    → understood schema text ≡ Ok c → IsCreation text c
known text schema c (d, inl made, creation) is = let same : d ≡ c = same_compiled (sym made ∙ is) in subst
    (IsCreation text) same creation
  where
    same_compiled : {a b : Compiled} → ◌≡◌ {A = Checked Compiled} (Ok a) (Ok b) → a ≡ b
    same_compiled e = cc
known text schema c (d, inr refused, creation) is = absurd (let e = sym is ∙ refused.1 in cc)
