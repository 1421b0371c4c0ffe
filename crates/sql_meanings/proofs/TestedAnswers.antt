-- What a SELECT with any test answers of one table: the rows that pass it, in some order. No order of the
-- keys is asked for.
use Rattle.sql_meanings.specs.Names.{ℕ, List, [], map, filter, cond, Bool, true, false, flat_map, list_all, Value}
use Rattle.sql_meanings.specs.Names.{Row, Trees, Term, Env, eval_all, holds, IsAnswerAs, matches_as, inner, end}
use Rattle.sql_meanings.specs.Names.{output}
use Rattle.sql_meanings.proofs.Names.{refl, sym, ap, subst, ◌∙◌, IsPermutation, map-map}
use Rattle.std.proofs.lemmas.List.Sorted.{IsPermutation-map}
use Rattle.sqlite.specs.Query.{Output}
use Rattle.sql_meanings.specs.{believed.Entries.Entry, believed.Entries.stored, Queries.no_limit, Queries.query}
use Rattle.std.specs.Prelude.{◌≡◌, ◌∷◌, ◌++◌}

module _ (params : Row) (tests : List Term) (passes : Entry → Bool) (same : (e : Entry)
    → list_all (holds (params ∷ stored e ∷ [])) tests ≡ passes e) where
  -- the values that a test reads of a row
  abbrev pub met : Entry → Env
  met e = params ∷ stored e ∷ []

  kept : {X Y : Type 0} (f : X → Y) (b : Bool) (x : X) (xs : List X)
      → cond b (f x ∷ []) [] ++ map f xs ≡ map f (cond b (x ∷ xs) xs)
  kept f true x xs = refl
  kept f false x xs = refl

  -- the rows that pass
  pub passing : (lost : Value) (db : Trees) (es : List Entry)
      → flat_map (λ r. matches_as lost db tests end (params ∷ r ∷ [])) (map stored es) ≡ map met
      (filter passes es)
  passing lost db [] = refl
  passing lost db (e ∷ es) = rw (same e, passing lost db es) (kept met (passes e) e (filter passes es))

  -- the answer is those rows, in some order
  pub looked_up : (lost : Value) (t : ℕ) (project : List Term) (db : Trees) (rows : List Row)
      (es : List Entry) → db t ≡ map stored es
      → IsAnswerAs lost (query (inner t end) tests project [] no_limit) db params rows
      → IsPermutation (map (λ e. eval_all project (met e)) (filter passes es)) rows
  looked_up lost t project db rows es are a =
      let q = query (inner t end) tests project [] no_limit in
      let staged : a.staged ≡ map met (filter passes es) = a.grouped
      ∙ ap (flat_map (λ r. matches_as lost db tests end (params ∷ r ∷ []))) are ∙ passing lost db es in
      let all : a.kept ≡ map (λ e. output q (met e)) (filter passes es) = a.distinct ∙ ap
      (map (output q)) staged
      ∙ map-map (output q) met (filter passes es) in
      let shown = IsPermutation-map (λ (o : Output). o.1)
      (map (λ e. output q (met e)) (filter passes es)) a.ordered
      (subst (λ l. IsPermutation l a.ordered) all a.same) in
      subst (IsPermutation (map (λ e. eval_all project (met e)) (filter passes es))) (sym a.shown)
      (subst (λ l. IsPermutation l (map (λ (o : Output). o.1) a.ordered))
      (map-map (λ (o : Output). o.1) (λ e. output q (met e)) (filter passes es)) shown)
