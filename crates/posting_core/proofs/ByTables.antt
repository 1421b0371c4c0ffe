-- Batches on whatever tables a counter shows, be they those of a log or not.
use Rattle.std.proofs.Common.{◌≡◌, ℕ, List, [], ◌∷◌, ◌++◌, refl, sym, ap, subst, ◌∙◌, append_assoc, append-nil}
use Rattle.posting_rules.specs.Counter.{StaysByTables}
use Rattle.posting_rules.specs.believed.AnyTables.{AnswersByTables, HasRoom}
use Rattle.posting_rules.specs.believed.Changes.{replies_past_all, tables_past_all}
use Rattle.posting_rules.specs.believed.{Counter.LeavesOnly, Counter.Seen, Tables.Tables}
use Rattle.posting_rules.proofs.AnyTables.{room_past_all}
use Rattle.posting_core.specs.believed.{Batches.Batch, Batches.replies_past_batches, Batches.tables_past_batches}
use Rattle.posting_core.specs.believed.ByTables.{BatchesByTables}

-- none was answered
pub no_batches : (c : Seen) → BatchesByTables c c [] []
no_batches c = record {
  are = λ h t room there. refl;
  shows = λ h t room there. there;
  survives = λ h t room there only. only;
}

tables_one_more : (t : Tables) (bs : List Batch) (b : Batch)
    → tables_past_batches t (bs ++ b ∷ []) ≡ tables_past_all (tables_past_batches t bs) b.moment b.records
tables_one_more t [] b = refl
tables_one_more t (x ∷ bs) b = tables_one_more (tables_past_all t x.moment x.records) bs b

replies_one_more : (t : Tables) (bs : List Batch) (b : Batch)
    → replies_past_batches t (bs ++ b ∷ [])
    ≡ replies_past_batches t bs ++ replies_past_all (tables_past_batches t bs) b.moment b.records
replies_one_more t [] b = append-nil (replies_past_all t b.moment b.records)
replies_one_more t (x ∷ bs) b =
    ap (λ (l : List (List ℕ)). replies_past_all t x.moment x.records ++ l)
    (replies_one_more (tables_past_all t x.moment x.records) bs b)
    ∙ sym (append_assoc (replies_past_all t x.moment x.records)
    (replies_past_batches (tables_past_all t x.moment x.records) bs) _)

room_past_batches : (t : Tables) (bs : List Batch) → HasRoom t → HasRoom (tables_past_batches t bs)
room_past_batches t [] room = room
room_past_batches t (b ∷ bs) room =
    room_past_batches (tables_past_all t b.moment b.records) bs (room_past_all t b.moment b.records room)

-- one more was
pub batch_more : (c c' c'' : Seen) (bs : List Batch) (b : Batch) (before replies : List (List ℕ))
    → (c''.honest → c'.honest) → BatchesByTables c c' bs before
    → AnswersByTables c' c'' b.moment b.records replies → BatchesByTables c c'' (bs ++ b ∷ []) (before ++ replies)
batch_more c c' c'' bs b before replies honest led it = record {
  are = λ h t room there.
      ap (λ (l : List (List ℕ)). l ++ replies) (led.are (honest h) t room there)
      ∙ ap (λ (l : List (List ℕ)). replies_past_batches t bs ++ l)
      (it.are h (tables_past_batches t bs) (room_past_batches t bs room) (led.shows (honest h) t room there))
      ∙ sym (replies_one_more t bs b);
  shows = λ h t room there. subst (λ (u : Tables). c''.tables u) (sym (tables_one_more t bs b))
      (it.shows h (tables_past_batches t bs) (room_past_batches t bs room) (led.shows (honest h) t room there));
  survives = λ h t room there only. subst (λ (u : Tables). LeavesOnly c'' (λ left. left ≡ u))
      (sym (tables_one_more t bs b))
      (it.survives h (tables_past_batches t bs) (room_past_batches t bs room) (led.shows (honest h) t room there)
      (led.survives (honest h) t room there only));
}

-- ---- reads before them

pub stays_itself : (c : Seen) → StaysByTables c c
stays_itself c = record { shows = λ h t there. there; survives = λ h t there only. only }

pub stays_then : (a b c : Seen) → (c.honest → b.honest) → StaysByTables a b → StaysByTables b c → StaysByTables a c
stays_then a b c honest one two = record {
  shows = λ h t there. two.shows h t (one.shows (honest h) t there);
  survives = λ h t there only.
      two.survives h t (one.shows (honest h) t there) (one.survives (honest h) t there only);
}

pub batches_after_read : (a b c : Seen) (bs : List Batch) (replies : List (List ℕ)) → (c.honest → b.honest)
    → StaysByTables a b → BatchesByTables b c bs replies → BatchesByTables a c bs replies
batches_after_read a b c bs replies honest read led = record {
  are = λ h t room there. led.are h t room (read.shows (honest h) t there);
  shows = λ h t room there. led.shows h t room (read.shows (honest h) t there);
  survives = λ h t room there only.
      led.survives h t room (read.shows (honest h) t there) (read.survives (honest h) t there only);
}
