-- A row more, of a second bank that follows rows, and what they lead to where they are those of a log.
use Rattle.std.proofs.Common.{◌≡◌, ◌∙◌, ◌++◌, ℕ, pos, Bool, List, [], ◌∷◌, map, Option, Some, None, Result, Ok, Err}
use Rattle.std.proofs.Common.{refl, sym, ap, subst, inl, inr}
use Rattle.std.specs.Prelude.{◌⊎◌, IfSome, IsSomeAnd, OnOk, nat_abs, option_map}
use Rattle.std.proofs.lemmas.List.{map-append}
use Rattle.sqlite_trees.specs.declared.store.Store.{Ghosts}
use Rattle.message_records.specs.believed.{Outcomes.code_of, Records.RequestFields}
use Rattle.message_records.specs.declared.records.Outcome.{Outcome}
use Rattle.posting_rules.specs.believed.Commands.{Command, Post, Terms}
use Rattle.posting_rules.specs.believed.Entries.{DecidedRequest}
use Rattle.sql_meanings.specs.believed.Entries.{Entry}
use Rattle.store_rows.specs.believed.Columns.{number_at}
use Rattle.walked_rows.specs.Requests.{IsRequestRow}
use Rattle.walked_rows.specs.{Came.CameAs, KeptRows.KeptItem, KeptRows.kept_item, Stored.posting_entry}
use Rattle.walked_rows.specs.declared.{kept.KeptRequest.KeptRequest, postings.StoredPosting.StoredPosting}
use Rattle.walked_rows.proofs.Came.{request_is}
use Rattle.bank_replays.specs.FollowedRows.{AreRowsOf}
use Rattle.bank_replays.specs.Following.{AreDecided, Follows, had_account, prepared}
use Rattle.bank_replays.specs.Leading.{Leads, PostsRow}
use Rattle.bank_replays.specs.Refilling.{FollowsRows, Holds, HoldsMore, IsMomentOf, IsNeverInDoubt, IsPlan}
use Rattle.bank_replays.specs.declared.refill.Refill.{Refill}
use Rattle.bank_replays.specs.declared.fault.ReplayFault.{ReplayFault}
use Rattle.bank_replays.proofs.Followed.{decided_before, follows_more}

-- ---- a row more, or the last of them

abbrev TakesRow : (ℕ → Option Terms) → KeptItem → (log next : List Command) → Type 0
TakesRow plan k log next = PostsRow plan k log next ⊎ ((IsRequestRow k → ⊥) × (next ≡ log))

leads_more : (plan : ℕ → Option Terms) (ks : List KeptItem) (k : KeptItem) (log mid now : List Command)
    → Leads plan ks log mid → TakesRow plan k mid now → Leads plan (ks ++ k ∷ []) log now
leads_more plan [] k log mid now led takes =
    (now, subst (λ (l : List Command). TakesRow plan k l now) led takes, refl)
leads_more plan (x ∷ ks) k log mid now led takes = (led.0, led.1, leads_more plan ks k led.0 mid now led.2 takes)

leads_last : (plan : ℕ → Option Terms) (ks : List KeptItem) (k : KeptItem) (log now : List Command)
    → Leads plan (ks ++ k ∷ []) log now → (mid : List Command) × Leads plan ks log mid × TakesRow plan k mid now
leads_last plan [] k log now led = (log, refl, subst (TakesRow plan k log) (sym led.2) led.1)
leads_last plan (x ∷ ks) k log now led =
    let it = leads_last plan ks k led.0 now led.2 in (it.0, (led.0, led.1, it.1), it.2)

-- ---- as they are visited

-- a posting has its own moment
own_moment : (moment : ℕ) (posting : Option StoredPosting) → IsMomentOf moment posting
    → IfSome (option_map posting_entry posting) (λ p. nat_abs (number_at 4 p) ≡ moment)
own_moment moment None is = tt
own_moment moment (Some p) is = is

module _ {T W : Type 0} {h : Ghosts T} (first old : Refill T W h) (rows : List KeptRequest) (row : KeptRequest)
    (visited : FollowsRows h first old (map kept_item rows)) where
  more : (plan : ℕ → Option Terms) (log mid now : List Command) → Leads plan (map kept_item rows) log mid
      → TakesRow plan (kept_item row) mid now → Leads plan (map kept_item (rows ++ row ∷ [])) log now
  more plan log mid now led takes =
      subst (λ (ks : List KeptItem). Leads plan ks log now) (sym (map-append kept_item rows (row ∷ [])))
      (leads_more plan (map kept_item rows) (kept_item row) log mid now led takes)

  -- it is posted
  pub follows_next : (last : Refill T W h) (r : RequestFields) (had : Bool) → CameAs row r → IsRequestRow (kept_item row)
      → ((o : Outcome) → row.request.outcome ≡ pos (code_of o) → had ≡ had_account o)
      → (result : Result (Unit {0}) ReplayFault)
      → (IsNeverInDoubt h → (plan : ℕ → Option Terms) → IsPlan plan → (log : List Command) → Holds h plan log old
      → OnOk result (HoldsMore h plan log had row.posting r last))
      → OnOk result (FollowsRows h first last (map kept_item (rows ++ row ∷ [])))
  follows_next last r had came is_row judged (Err e) takes = tt
  follows_next last r had came is_row judged (Ok done) takes = λ sure plan is log holds.
      let before = visited sure plan is log holds in
      let it = takes sure plan is before.0 before.1 in
      let now = Post it.moment it.bytes ∷ prepared plan had r before.0 in (
        now,
        it.holds,
        more plan log before.0 now before.2 (inl (record {
          is = is_row;
          moment = it.moment;
          own = own_moment it.moment row.posting it.is;
          bytes = it.bytes;
          reads = it.reads ∙ ap Ok (request_is row r came);
          had = had;
          judged = judged;
          posts = ap (λ (q : RequestFields). Post it.moment it.bytes ∷ prepared plan had q before.0) (request_is row r came);
        })),
      )

  -- or does nothing
  pub follows_none_read : (last : Refill T W h) → (IsRequestRow (kept_item row) → ⊥)
      → ((plan : ℕ → Option Terms) (log : List Command) → Holds h plan log old → Holds h plan log last)
      → FollowsRows h first last (map kept_item (rows ++ row ∷ []))
  follows_none_read last none stays sure plan is log holds =
      let before = visited sure plan is log holds in
      (before.0, stays plan before.0 before.1, more plan log before.0 before.0 before.2 (inr (none, refl)))

-- ---- the rows of a log

posted_at : (moment : ℕ) (posting : Option Entry) (e : DecidedRequest)
    → IfSome posting (λ p. nat_abs (number_at 4 p) ≡ moment)
    → IsSomeAnd posting (λ p. nat_abs (number_at 4 p) ≡ e.moment) → moment ≡ e.moment
posted_at moment None e own at = absurd at
posted_at moment (Some p) e own at = sym own ∙ at

-- they lead to a log that follows it
pub leads_follows : (plan : ℕ → Option Terms) (es : List DecidedRequest) (ks : List KeptItem) (now : List Command)
    → AreDecided plan es → AreRowsOf ks es → Leads plan ks [] now → Follows plan es now
leads_follows plan [] ks now decided are led =
    subst (Follows plan []) (sym (subst (λ (l : List KeptItem). Leads plan l [] now) are led))
    (record { requests = refl; current = refl; within = λ log decides planned b terms is. absurd cc })
leads_follows plan (e ∷ es) ks now decided are led =
    let k = are.1 in
    let row = are.3 in
    let it = leads_last plan are.0 k [] now (subst (λ (l : List KeptItem). Leads plan l [] now) are.2 led) in
    let before = leads_follows plan es are.0 it.0 (decided_before plan e es decided) are.4 it.1 in
    elim it.2 [
      | inl posts ↦
          let asked = row.request in
          let hads = posts.judged e.outcome row.outcome in
          subst (Follows plan (e ∷ es))
          (sym (posts.posts
          ∙ ap (λ (q : RequestFields). Post posts.moment posts.bytes ∷ prepared plan posts.had q it.0) asked
          ∙ ap (λ (b : Bool). Post posts.moment posts.bytes ∷ prepared plan b e.request it.0) hads))
          (follows_more plan e es it.0 decided before posts.moment posts.bytes (posts.reads ∙ ap Ok asked)
          (λ posted. posted_at posts.moment k.posting e posts.own (row.moment posted)))
      | inr none ↦ absurd (none.0 row.is)
    ]
