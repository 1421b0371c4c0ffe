-- That a text makes a table under any schema that takes it, by what is computed of the text.
use Rattle.sql_meanings.specs.Names.{not, List, [], ℕ, Bool, true, false, length, codes, Ok, None, IsUtf8}
use Rattle.sql_meanings.specs.Names.{slice_range, list_all, table_defined_by, Table, Text, IsBadName, is_fit}
use Rattle.sql_meanings.specs.Names.{is_formed, first, with_command, table_reals, Parsed}
use Rattle.sql_meanings.proofs.Names.{nat_lt, inl, inr, refl, arith}
use Rattle.std.proofs.Common.{◌*◌}
use Rattle.std.proofs.lemmas.{Str.IsUtf8-from_ascii, Str.Ascii.IsAscii-from_all, List.Sums.AllPass-from_list_all}
use Rattle.sqlite.specs.Change.{is_reserved}
use Rattle.sqlite.specs.Command.TheVariants.{CreateTable as MakeTable}
use Rattle.sqlite_ast.specs.declared.CreateTable.{CreateTable}
use Rattle.sql_meanings.specs.Making.{CreatesOnly, IsMakeable}
use Rattle.sql_meanings.proofs.Creating.{compiled_create, known, answers}
use Rattle.sqlite_ast.specs.declared.Statement.TheVariants as written
use Rattle.sqlite_resolve.specs.Define as define
use Rattle.std.specs.Prelude.{◌≡◌, ◌+◌, ◌^◌, ◌≤◌, ◌==◌, ◌&&◌}

abbrev is_ascii : List ℕ → Bool
is_ascii = list_all (λ b. nat_lt b 128)

utf8 : (text : List ℕ) → is_ascii text ≡ true → IsUtf8 text
utf8 text ascii = IsUtf8-from_ascii text (IsAscii-from_all text (λ i d low.
    let each = AllPass-from_list_all (λ b. nat_lt b 128) text ascii i d low in grind arith))

-- what a table asks for can be computed
pub makeable : (text : List ℕ) (t : Table) → table_defined_by text ≡ Ok t → is_ascii text ≡ true
    → is_ascii t.name ≡ true
    → (is_reserved t.name && not (length t.uniques == 0)) ≡ false → table_reals t ≡ 0 → is_formed t ≡ true
    → is_fit (Text (codes "table")) (Text t.name) (Text t.name) (Text text) ≡ true
    → nat_lt (2 * length t.name + length text + 200) (10 ^ 9) ≡ true → IsMakeable text t
makeable text t defined ascii named allowed integral formed fit short = record {
  defined = defined;
  utf8 = utf8 text ascii;
  allowed = not_bad;
  integral = integral;
  formed = formed;
  fit = fit;
  short = grind arith;
}
  where
    kept : (b c : Bool) → (b && not c) ≡ false → b ≡ true → c ≡ false → ⊥
    kept true c h is off = absurd (let e = rw off at h in cc)
    kept false c h is off = absurd cc

    not_bad : ¬ IsBadName t.name (length t.uniques == 0)
    not_bad (inl bad) = bad (utf8 t.name named)
    not_bad (inr own) = kept (is_reserved t.name) (length t.uniques == 0) allowed own.0 own.1

-- the text is this one CREATE TABLE, whole
pub creates_by : (text : List ℕ) (t : Table) → IsMakeable text t → t.references ≡ []
    → (P : Parsed) (def : CreateTable) (made : Table)
    → first text ≡ Ok P → P.statement ≡ written.CreateTable def → P.formats ≡ [] → def.if_missing ≡ false
    → define.table [] def ≡ Ok made
    → (length made.computed == length made.stamps.places && not def.resolves) ≡ true
    → slice_range text P.start P.end ≡ text
    → length text ≤ P.tail → P.names ≡ [] → CreatesOnly text t
creates_by text t makeable free P def made parsed is plain missing defined stamped whole to_end
    nameless = record {
      makeable = makeable;
      free = free;
      command = λ schema c understood. known text schema c (
        with_command P ([], (MakeTable, None)),
        answers schema text _ (compiled_create schema text P def made parsed is plain missing defined stamped),
        record {
          command = refl;
          bare = refl;
          timeless = refl;
          text_is = whole;
          whole = to_end;
          nameless = nameless;
        },
      ) understood;
    }
