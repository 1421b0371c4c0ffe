-- What a text means under a schema, as a caller's proof takes it.
use Rattle.sql_meanings.specs.Names.{ℕ, List, [], length, None, Ok, Err, false, Schema, Row, Command, understood}
use Rattle.sql_meanings.specs.Names.{reads_listing, State, IsNoStatement, Error, Compiled, compiled}
use Rattle.sql_meanings.proofs.Names.{inl, inr, sym, ap, subst, ◌∙◌, IsPlain, command_of, same_value}
use Rattle.std.specs.Prelude.{◌≡◌, ◌≤◌}

-- one statement, with so many parameters, that is this command
pub record Means (schema : Schema) (text : List ℕ) (count : ℕ) (command : Command) : Type 0 where
  pub found : Compiled
  pub is : understood schema text ≡ Ok found
  pub unlisted : reads_listing schema text ≡ false
  pub meant : found.command ≡ command
  pub whole : length text ≤ found.tail
  pub given : count ≡ length found.names
  pub bare : found.returning ≡ None
  pub timeless : found.formats ≡ []

understood_is : (schema : Schema) (text : List ℕ) (c : Compiled) → compiled schema text ≡ Ok c
    → (understood schema text ≡ Ok c) × (reads_listing schema text ≡ false)
unfolding understood
understood_is schema text c is = (rw is, rw is)

-- what a text compiles to is what it means
pub means : (schema : Schema) (text : List ℕ) (count : ℕ) (command : Command) (c : Compiled)
    → compiled schema text ≡ Ok c
    → c.command ≡ command → length text ≤ c.tail → count ≡ length c.names → c.returning ≡ None
    → c.formats ≡ []
    → Means schema text count command
means schema text count command c is meant whole given bare timeless =
    let both = understood_is schema text c is in
    record {
      found = c;
      is = both.0;
      unlisted = both.1;
      meant = meant;
      whole = whole;
      given = given;
      bare = bare;
      timeless = timeless;
    }

module _ (schema : Schema) (text : List ℕ) (count : ℕ) (command : Command)
    (m : Means schema text count command) where
  -- the command of the text
  pub meant_is : command_of (understood schema text) ≡ command
  meant_is = ap command_of m.is ∙ m.meant

  -- it returns nothing and reads no time
  pub plain_is : IsPlain (understood schema text)
  plain_is = subst IsPlain (sym m.is) (m.bare, m.timeless)

-- a text that means something is one statement
-- such a text is not refused as no statement
pub no_refusal : (text : List ℕ) (params : Row) (command : Command) (s : State) (e : Error)
    → Means s.now.schema text (length params) command → ¬ IsNoStatement s text params e
no_refusal text params command s e m (inl h) = absurd (let it : Ok m.found ≡ Err h.0 = sym m.is ∙ h.1 in cc)
no_refusal text params command s e m (inr h) =
    let same : m.found ≡ h.0 = same_value (sym m.is ∙ h.1) in
    elim h.2 [
      | inl tail ↦ tail.0 (subst (λ (c : Compiled). length text ≤ c.tail) same m.whole)
      | inr (inl count) ↦ count.0 (subst (λ (c : Compiled). length params ≡ length c.names) same m.given)
      | inr (inr clock) ↦ clock.0 (subst (λ (c : Compiled). c.formats ≡ []) same m.timeless)
    ]
