-- What the router's search answers, as tests on the path.
use Rattle.std.proofs.Common.{lit<, get_or, ◌≡◌, ℕ, zero, suc, ◌-◌, ◌<◌, ◌≤◌, inl, inr, Bool, true, false, cond, ltb}
use Rattle.std.proofs.Common.{eqb, List, [], ◌∷◌, ◌++◌, length, take, drop, Option, Some, None, refl, sym, ap, subst}
use Rattle.std.proofs.Common.{◌∙◌, arith}
use Rattle.std.specs.Prelude.{codes, bytes_eq, not, ◌&&◌, unwrap_or}
use Rattle.std.specs.List.{list_any, AllByRecursion, position_or_len}
use Rattle.std.specs.{Str.IsUtf8, Str.is_utf8, Option.option_map}
use Rattle.std.proofs.lemmas.Str.{IsUtf8-from_is_utf8, is_utf8-from_IsUtf8}
use Rattle.std.proofs.lemmas.Bool.{cases_Bool, cases_eq, cases_lt, le-ltb, ne_eqb, lt-ltb}
use Rattle.posting_rules.proofs.RowChanges.{eqb-flip}
use Rattle.matchit.specs.{Rows.RowsOf, Router.RouteOf}
use Rattle.counter_http.specs.declared.routes.Route.{Route, TheVariants.Posting, TheVariants.Branches, TheVariants.Health}
use Rattle.counter_http.specs.declared.routes.Route.TheVariants.{Metrics, Plan}
use Rattle.matchit.specs.Seek.{step, or_else, param_step, seek, first, has_slash}
use Rattle.counter_http.specs.believed.Paths.{is_slash, route_named, route_of}
use Rattle.counter_http.specs.Rows.{fixed, account_row, all_routes, log_row, teller_row}

-- the bytes of a text are bytes
abbrev pub AreBytes : List ℕ → Type 0
AreBytes bs = AllByRecursion (λ b. b < 256) bs

or_none : {K : Type 0} (o : Option K) → or_else o None ≡ o
or_none None = refl
or_none (Some k) = refl

abbrev Rs : Type 0
Rs = RowsOf (RouteOf Route)

abbrev no_rows : Rs
no_rows = []

abbrev both : Bool → ℕ → ℕ × Rs
both b n = cond b (0, no_rows) (n, no_rows)

both_none : (b : Bool) (n : ℕ) → (both b n).1 ≡ no_rows
both_none true n = refl
both_none false n = refl

param_none : (path : List ℕ) → (param_step no_rows path).1 ≡ no_rows
unfolding param_step
param_none path = both_none (has_slash path) (length path)

seek_none : (k : ℕ) (path : List ℕ) → seek k no_rows path ≡ None
unfolding seek
seek_none k [] = refl
seek_none (suc k) (b ∷ path) = seek_none k path
seek_none zero (b ∷ path) =
    rw (seek_none 0 path, param_none (b ∷ path), seek_none ((param_step no_rows (b ∷ path)).0 - 1) path) refl

-- where each row goes on with a byte
literal_step : (rs : Rs) (b : ℕ) (path : List ℕ) → step 256 rs ≡ no_rows → step 257 rs ≡ no_rows
    → seek 0 rs (b ∷ path) ≡ seek 0 (step b rs) path
unfolding seek
literal_step rs b path e f =
    rw (e, f, param_none (b ∷ path), seek_none ((param_step no_rows (b ∷ path)).0 - 1) path)
    (or_none (seek 0 (step b rs) path))

-- ---- one row of bytes

abbrev row : List ℕ → RouteOf Route → Rs
row text k = (text, k) ∷ []

apart : (x y : ℕ) → x < y → eqb x y ≡ false
apart x y lt = ne_eqb x y (λ e. absurd (omega arith))

step_other : (x y : ℕ) (text : List ℕ) (k : RouteOf Route) → eqb x y ≡ false
    → step y (row (x ∷ text) k) ≡ no_rows
step_other x y text k e = rw e refl

seek_row : (text : List ℕ) (k : RouteOf Route) (path : List ℕ) → AreBytes text
    → seek 0 (row text k) path ≡ cond (bytes_eq path text) (Some k) None
unfolding seek
seek_row [] k [] all = refl
seek_row [] k (b ∷ path) all = literal_step (row [] k) b path refl refl ∙ seek_none 0 path
seek_row (x ∷ text) k [] all = refl
seek_row (x ∷ text) k (b ∷ path) all =
    literal_step (row (x ∷ text) k) b path (step_other x 256 text k (apart x 256 all.0))
    (step_other x 257 text k (apart x 257 (omega (arith, all.0))))
    ∙ elim (cases_Bool (eqb x b)) [
      | inl t ↦ let u : eqb b x ≡ true = eqb-flip b x ∙ t in rw (t, u) (seek_row text k path all.1)
      | inr f ↦ let u : eqb b x ≡ false = eqb-flip b x ∙ f in rw (f, u) (seek_none 0 path)
    ]

-- ---- a row that ends with a parameter

skip_all : (k : RouteOf Route) (path : List ℕ) → seek (length path) (row [] k) path ≡ Some k
unfolding seek
skip_all k [] = refl
skip_all k (b ∷ path) = skip_all k path

abbrev parts : Bool → ℕ → RouteOf Route → ℕ × Rs
parts b n k = cond b (0, no_rows) (n, row [] k)

param_row : (b : Bool) (n : ℕ) (k : RouteOf Route) (path : List ℕ) → n ≡ length path
    → or_else (seek ((parts b (suc n) k).0 - 1) (parts b (suc n) k).1 path) None ≡ cond (not b) (Some k) None
param_row true n k path e = or_none (seek (0 - 1) no_rows path) ∙ seek_none (0 - 1) path
param_row false n k path e =
    let skip : suc n - 1 ≡ length path = omega arith in
    or_none (seek (suc n - 1) (row [] k) path) ∙ ap (λ (j : ℕ). seek j (row [] k) path) skip ∙ skip_all k path

ltb_suc : (a b : ℕ) → ltb (suc a) (suc b) ≡ ltb a b
ltb_suc a b = elim (cases_lt a b) [
  | inl lt ↦ lt-ltb (suc a) (suc b) (omega arith) ∙ sym (lt-ltb a b lt)
  | inr ge ↦ le-ltb (suc a) (suc b) (omega arith) ∙ sym (le-ltb a b ge)
]

slash_same : (path : List ℕ) → list_any is_slash path ≡ has_slash path
slash_same [] = refl
slash_same (b ∷ path) = elim (cases_Bool (eqb b 47)) [
  | inl t ↦ rw t refl
  | inr f ↦ rw f (slash_same path)
]

param_first : (k : RouteOf Route) (b : ℕ) (path : List ℕ) → b < 256
    → seek 0 (row (256 ∷ []) k) (b ∷ path) ≡ cond (not (has_slash (b ∷ path))) (Some k) None
unfolding seek param_step
param_first k b path byte =
    let other : eqb 256 b ≡ false = ne_eqb 256 b (λ e. absurd (omega arith)) in
    rw (other, seek_none 0 path) (param_row (has_slash (b ∷ path)) (length path) k path refl)

abbrev leads : List ℕ → List ℕ → Bool
leads lit path =
    bytes_eq (take (length lit) path) lit &&
    (ltb (length lit) (length path) && not (list_any is_slash (drop (length lit) path)))

seek_account : (lit : List ℕ) (k : RouteOf Route) (path : List ℕ) → AreBytes lit → AreBytes path
    → seek 0 (row (lit ++ 256 ∷ []) k) path ≡ cond (leads lit path) (Some k) None
unfolding seek
seek_account [] k [] all bytes = refl
seek_account [] k (b ∷ path) all bytes =
    let some : ltb 0 (length (b ∷ path)) ≡ true = lt-ltb 0 (length (b ∷ path)) (omega arith) in
    rw (some, slash_same (b ∷ path)) (param_first k b path bytes.0)
seek_account (x ∷ lit) k [] all bytes = refl
seek_account (x ∷ lit) k (b ∷ path) all bytes =
    literal_step (row (x ∷ (lit ++ 256 ∷ [])) k) b path (step_other x 256 _ k (apart x 256 all.0))
    (step_other x 257 _ k (apart x 257 (omega (arith, all.0))))
    ∙ elim (cases_Bool (eqb x b)) [
      | inl t ↦ let u : eqb b x ≡ true = eqb-flip b x
          ∙ t in rw (t, u, ltb_suc (length lit) (length path)) (seek_account lit k path all.1 bytes.1)
      | inr f ↦ let u : eqb b x ≡ false = eqb-flip b x ∙ f in rw (f, u) (seek_none 0 path)
    ]

-- ---- the routes

abbrev value_in : RouteOf Route → Route
value_in r = r.value

mapped : (b : Bool) (k : RouteOf Route)
    → option_map value_in (cond b (Some k) None) ≡ cond b (Some k.value) None
mapped true k = refl
mapped false k = refl

abbrev after_slash : Rs
after_slash = (codes "account/" ++ 256 ∷ [], account_row.1)
    ∷ (codes "branches", (fixed (codes "/branches") Branches).1)
    ∷ (codes "health", (fixed (codes "/health") Health).1)
    ∷ (codes "log/" ++ 256 ∷ [], log_row.1)
    ∷ (codes "metrics", (fixed (codes "/metrics") Metrics).1)
    ∷ (codes "plan", (fixed (codes "/plan") Plan).1)
    ∷ (codes "post", (fixed (codes "/post") Posting).1)
    ∷ (codes "teller/" ++ 256 ∷ [], teller_row.1) ∷ []

abbrev after_p : Rs
after_p = (codes "lan", (fixed (codes "/plan") Plan).1) ∷ (codes "ost", (fixed (codes "/post") Posting).1) ∷ []

ltb_nine : (n : ℕ) → ltb 9 (suc (suc n)) ≡ ltb 7 n
ltb_nine n = ltb_suc 8 (suc n) ∙ ltb_suc 7 n

ltb_eight : (n : ℕ) → ltb 8 (suc (suc n)) ≡ ltb 6 n
ltb_eight n = ltb_suc 7 (suc n) ∙ ltb_suc 6 n

ltb_five : (n : ℕ) → ltb 5 (suc (suc n)) ≡ ltb 3 n
ltb_five n = ltb_suc 4 (suc n) ∙ ltb_suc 3 n

second_account : (q : List ℕ) → AreBytes q
    → option_map value_in (seek 0 after_slash (97 ∷ q)) ≡ route_named (47 ∷ 97 ∷ q)
second_account q bytes =
    ap (option_map value_in) (literal_step after_slash 97 q refl refl
    ∙ seek_account (codes "ccount/") account_row.1 q
    (lit< tt, (lit< tt, (lit< tt, (lit< tt, (lit< tt, (lit< tt, (lit< tt, tt))))))) bytes)
    ∙ mapped (leads (codes "ccount/") q) account_row.1 ∙ (rw ltb_nine refl)

second_branches : (q : List ℕ)
    → option_map value_in (seek 0 after_slash (98 ∷ q)) ≡ route_named (47 ∷ 98 ∷ q)
second_branches q =
    ap (option_map value_in) (literal_step after_slash 98 q refl refl
    ∙ seek_row (codes "ranches") (fixed (codes "/branches") Branches).1 q
    (lit< tt, (lit< tt, (lit< tt, (lit< tt, (lit< tt, (lit< tt, (lit< tt, tt))))))))
    ∙ mapped (bytes_eq q (codes "ranches")) (fixed (codes "/branches") Branches).1

second_health : (q : List ℕ)
    → option_map value_in (seek 0 after_slash (104 ∷ q)) ≡ route_named (47 ∷ 104 ∷ q)
second_health q =
    ap (option_map value_in) (literal_step after_slash 104 q refl refl
    ∙ seek_row (codes "ealth") (fixed (codes "/health") Health).1 q
    (lit< tt, (lit< tt, (lit< tt, (lit< tt, (lit< tt, tt))))))
    ∙ mapped (bytes_eq q (codes "ealth")) (fixed (codes "/health") Health).1

second_log : (q : List ℕ) → AreBytes q
    → option_map value_in (seek 0 after_slash (108 ∷ q)) ≡ route_named (47 ∷ 108 ∷ q)
second_log q bytes =
    ap (option_map value_in) (literal_step after_slash 108 q refl refl
    ∙ seek_account (codes "og/") log_row.1 q (lit< tt, (lit< tt, (lit< tt, tt))) bytes)
    ∙ mapped (leads (codes "og/") q) log_row.1 ∙ (rw ltb_five refl)

second_metrics : (q : List ℕ)
    → option_map value_in (seek 0 after_slash (109 ∷ q)) ≡ route_named (47 ∷ 109 ∷ q)
second_metrics q =
    ap (option_map value_in) (literal_step after_slash 109 q refl refl
    ∙ seek_row (codes "etrics") (fixed (codes "/metrics") Metrics).1 q
    (lit< tt, (lit< tt, (lit< tt, (lit< tt, (lit< tt, (lit< tt, tt)))))))
    ∙ mapped (bytes_eq q (codes "etrics")) (fixed (codes "/metrics") Metrics).1

second_teller : (q : List ℕ) → AreBytes q
    → option_map value_in (seek 0 after_slash (116 ∷ q)) ≡ route_named (47 ∷ 116 ∷ q)
second_teller q bytes =
    ap (option_map value_in) (literal_step after_slash 116 q refl refl
    ∙ seek_account (codes "eller/") teller_row.1 q
    (lit< tt, (lit< tt, (lit< tt, (lit< tt, (lit< tt, (lit< tt, tt)))))) bytes)
    ∙ mapped (leads (codes "eller/") q) teller_row.1 ∙ (rw ltb_eight refl)

third_plan : (q : List ℕ) → option_map value_in (seek 0 after_p (108 ∷ q)) ≡ route_named (47 ∷ 112 ∷ 108 ∷ q)
third_plan q =
    ap (option_map value_in) (literal_step after_p 108 q refl refl
    ∙ seek_row (codes "an") (fixed (codes "/plan") Plan).1 q (lit< tt, (lit< tt, tt)))
    ∙ mapped (bytes_eq q (codes "an")) (fixed (codes "/plan") Plan).1

third_post : (q : List ℕ) → option_map value_in (seek 0 after_p (111 ∷ q)) ≡ route_named (47 ∷ 112 ∷ 111 ∷ q)
third_post q =
    ap (option_map value_in) (literal_step after_p 111 q refl refl
    ∙ seek_row (codes "st") (fixed (codes "/post") Posting).1 q (lit< tt, (lit< tt, tt)))
    ∙ mapped (bytes_eq q (codes "st")) (fixed (codes "/post") Posting).1

third_other : (c : ℕ) (q : List ℕ) → eqb c 108 ≡ false → eqb c 111 ≡ false
    → option_map value_in (seek 0 after_p (c ∷ q)) ≡ route_named (47 ∷ 112 ∷ c ∷ q)
third_other c q l o =
    let l' : eqb 108 c ≡ false = eqb-flip 108 c ∙ l in
    let o' : eqb 111 c ≡ false = eqb-flip 111 c ∙ o in
    let none : step c after_p ≡ no_rows = rw (l', o') refl in
    ap (option_map value_in) (literal_step after_p c q refl refl ∙ ap (λ (rs : Rs). seek 0 rs q) none
    ∙ seek_none 0 q)
    ∙ (rw (l, o) refl)

third : (q : List ℕ) → option_map value_in (seek 0 after_p q) ≡ route_named (47 ∷ 112 ∷ q)
unfolding seek
third [] = refl
third (c ∷ q) = elim (cases_eq c 108) [
  | inl e ↦ subst (λ (x : ℕ). option_map value_in (seek 0 after_p (x ∷ q)) ≡ route_named (47 ∷ 112 ∷ x ∷ q))
      (sym e) (third_plan q)
  | inr l ↦ elim (cases_eq c 111) [
    | inl e ↦ subst (λ (x : ℕ). option_map value_in (seek 0 after_p (x ∷ q)) ≡ route_named (47 ∷ 112 ∷ x ∷ q))
        (sym e) (third_post q)
    | inr o ↦ third_other c q (ne_eqb c 108 l) (ne_eqb c 111 o)
  ]
]

second_p : (q : List ℕ) → option_map value_in (seek 0 after_slash (112 ∷ q)) ≡ route_named (47 ∷ 112 ∷ q)
second_p q = ap (option_map value_in) (literal_step after_slash 112 q refl refl) ∙ third q

second_other : (c : ℕ) (q : List ℕ) → eqb c 97 ≡ false → eqb c 98 ≡ false → eqb c 104 ≡ false → eqb c 108 ≡ false
    → eqb c 109 ≡ false → eqb c 112 ≡ false → eqb c 116 ≡ false
    → option_map value_in (seek 0 after_slash (c ∷ q)) ≡ route_named (47 ∷ c ∷ q)
second_other c q a b h l m p t =
    let a' : eqb 97 c ≡ false = eqb-flip 97 c ∙ a in
    let b' : eqb 98 c ≡ false = eqb-flip 98 c ∙ b in
    let h' : eqb 104 c ≡ false = eqb-flip 104 c ∙ h in
    let l' : eqb 108 c ≡ false = eqb-flip 108 c ∙ l in
    let m' : eqb 109 c ≡ false = eqb-flip 109 c ∙ m in
    let p' : eqb 112 c ≡ false = eqb-flip 112 c ∙ p in
    let t' : eqb 116 c ≡ false = eqb-flip 116 c ∙ t in
    let none : step c after_slash ≡ no_rows = rw (a', b', h', l', m', p', t') refl in
    ap (option_map value_in) (literal_step after_slash c q refl refl ∙ ap (λ (rs : Rs). seek 0 rs q) none
    ∙ seek_none 0 q)
    ∙ (rw (a, b, h, l, m, p, t) refl)

second : (p : List ℕ) → AreBytes p → option_map value_in (seek 0 after_slash p) ≡ route_named (47 ∷ p)
unfolding seek
second [] bytes = refl
second (c ∷ q) bytes = elim (cases_eq c 97) [
  | inl e ↦ subst (λ (x : ℕ). option_map value_in (seek 0 after_slash (x ∷ q)) ≡ route_named (47 ∷ x ∷ q))
      (sym e) (second_account q bytes.1)
  | inr a ↦ elim (cases_eq c 98) [
    | inl e ↦ subst (λ (x : ℕ). option_map value_in (seek 0 after_slash (x ∷ q)) ≡ route_named (47 ∷ x ∷ q))
        (sym e) (second_branches q)
    | inr b ↦ elim (cases_eq c 104) [
      | inl e ↦ subst (λ (x : ℕ). option_map value_in (seek 0 after_slash (x ∷ q))
          ≡ route_named (47 ∷ x ∷ q)) (sym e) (second_health q)
      | inr h ↦ elim (cases_eq c 108) [
        | inl e ↦ subst (λ (x : ℕ). option_map value_in (seek 0 after_slash (x ∷ q))
            ≡ route_named (47 ∷ x ∷ q)) (sym e) (second_log q bytes.1)
        | inr l ↦ elim (cases_eq c 109) [
          | inl e ↦ subst (λ (x : ℕ). option_map value_in (seek 0 after_slash (x ∷ q))
              ≡ route_named (47 ∷ x ∷ q)) (sym e) (second_metrics q)
          | inr m ↦ elim (cases_eq c 112) [
            | inl e ↦ subst (λ (x : ℕ). option_map value_in (seek 0 after_slash (x ∷ q))
                ≡ route_named (47 ∷ x ∷ q)) (sym e) (second_p q)
            | inr p ↦ elim (cases_eq c 116) [
              | inl e ↦ subst (λ (x : ℕ). option_map value_in (seek 0 after_slash (x ∷ q))
                  ≡ route_named (47 ∷ x ∷ q)) (sym e) (second_teller q bytes.1)
              | inr t ↦ second_other c q (ne_eqb c 97 a) (ne_eqb c 98 b) (ne_eqb c 104 h) (ne_eqb c 108 l)
                  (ne_eqb c 109 m) (ne_eqb c 112 p) (ne_eqb c 116 t)
            ]
          ]
        ]
      ]
    ]
  ]
]

pub routed : (path : List ℕ) → AreBytes path → option_map value_in (first all_routes path) ≡ route_named path
unfolding seek all_routes
routed [] bytes = refl
routed (b ∷ p) bytes = elim (cases_eq b 47) [
  | inl e ↦ subst (λ (x : ℕ). option_map value_in (first all_routes (x ∷ p)) ≡ route_named (x ∷ p)) (sym e)
      (ap (option_map value_in) (literal_step all_routes 47 p refl refl) ∙ second p bytes.1)
  | inr n ↦
      let u : eqb b 47 ≡ false = ne_eqb b 47 n in
      let v : eqb 47 b ≡ false = eqb-flip 47 b ∙ u in
      let none : step b all_routes ≡ no_rows = rw v refl in
      ap (option_map value_in) (literal_step all_routes b p refl refl ∙ ap (λ (rs : Rs). seek 0 rs p) none
      ∙ seek_none 0 p) ∙ (rw u refl)
]

-- ---- the route of a target

bytes_from : (bs : List ℕ) → ((i : ℕ) → get_or bs i 0 < 256) → AreBytes bs
bytes_from [] h = tt
bytes_from (b ∷ bs) h = (h 0, bytes_from bs (λ i. h (suc i)))

pub text_bytes : (path text : List ℕ) → ((i : ℕ) → get_or path i 0 < 256) → text ≡ path → AreBytes text
text_bytes path text h e = subst AreBytes (sym e) (bytes_from path h)

pub no_text : (path : List ℕ) → (IsUtf8 path → ⊥) → None ≡ route_of path
unfolding route_of
no_text path not = elim (cases_Bool (is_utf8 path)) [
  | inl t ↦ absurd (not (IsUtf8-from_is_utf8 path t))
  | inr f ↦ rw f refl
]

pub find_text : (path : List ℕ) (o : Option (RouteOf Route)) → AreBytes path → IsUtf8 path
    → first all_routes path ≡ o → option_map value_in o ≡ route_of path
unfolding route_of
find_text path o bytes text e =
    let t : is_utf8 path ≡ true = is_utf8-from_IsUtf8 path text in
    rw t (ap (option_map value_in) (sym e) ∙ routed path bytes)

pub position_within : (p : ℕ → Bool) (xs : List ℕ) → position_or_len p xs ≤ length xs
position_within p [] = omega arith
position_within p (x ∷ xs) = elim (cases_Bool (p x)) [
  | inl t ↦ rw t (omega arith)
  | inr f ↦ rw f (omega (arith, position_within p xs))
]

pub position_is : (p n : ℕ) (r : Option ℕ) → r ≡ cond (ltb p n) (Some p) None → p ≤ n → unwrap_or r n ≡ p
position_is p n r e le = elim (cases_lt p n) [
  | inl lt ↦
      let there : cond (ltb p n) (Some p) None ≡ Some p = rw (lt-ltb p n lt) refl in
      ap (λ (o : Option ℕ). unwrap_or o n) (e ∙ there)
  | inr ge ↦
      let none : cond (ltb p n) (Some p) None ≡ None = rw (le-ltb p n ge) refl in
      let same : n ≡ p = omega arith in
      ap (λ (o : Option ℕ). unwrap_or o n) (e ∙ none) ∙ same
]

pub at_rows : {rs : Rs} → rs ≡ all_routes → (path : List ℕ) (o : Option (RouteOf Route)) → first rs path ≡ o
    → first all_routes path ≡ o
at_rows e path o h = ap (λ (x : Rs). first x path) (sym e) ∙ h

pub IsUtf8-of : {xs ys : List ℕ} → xs ≡ ys → IsUtf8 ys → IsUtf8 xs
IsUtf8-of e h = subst IsUtf8 (sym e) h
