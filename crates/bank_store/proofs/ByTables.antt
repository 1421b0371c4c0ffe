-- On tables with room a record or a batch is answered as every counter does.
use Rattle.std.proofs.Common.{◌≡◌, ℕ, List, [], ◌∷◌, Ok, Err, Result, length, sym, ap, subst, ◌∙◌}
use Rattle.message_records.specs.believed.{Reading.request_of, Records.RequestFields, Spelling.reply_spelling}
use Rattle.message_records.specs.declared.fault.Bad.{Bad}
use Rattle.posting_rules.specs.believed.AnyTables.{HasRoom}
use Rattle.posting_rules.specs.believed.Changes.{reply_read, tables_read}
use Rattle.posting_rules.specs.believed.{Counter.LeavesOnly, Entries.malformed_reply, Tables.Tables}
use Rattle.bank_transactions.specs.believed.Batches.{HasRoomFor}
use Rattle.sqlite_trees.specs.declared.store.Store.{Ghosts}
use Rattle.bank_store.specs.believed.NoneOrAll.{LeavesAll, LeavesBatch, LeavesOne, LeavesRecords}
use Rattle.bank_store.specs.believed.Seen.{bank_seen}
use Rattle.bank_store.specs.declared.bank.Bank.{Bank}

room_for : (count : ℕ) (t : Tables) → HasRoom t → HasRoomFor count t
room_for count t room = record {
  free = record {
    requests = λ o is. room.requests o is.0;
    postings = λ o is. room.postings o is.0;
    references = λ o is. room.references o is.0;
  };
  branches = room.branches;
  floors = room.floors;
}

module _ {S : Type 0} (g : Ghosts S) (old new : Bank S g) (moment : ℕ) where
  pub leaves_all : (records replies : List (List ℕ))
      → ((bank_seen g new).honest → (t : Tables) → (bank_seen g old).tables t → HasRoomFor (length records) t
      → LeavesBatch g old new t moment records replies)
      → LeavesAll g old new moment records replies
  leaves_all records replies all = record {
    by_tables = record {
      are = λ h t room there. (all h t there (room_for (length records) t room)).leaves.answers;
      shows = λ h t room there. (all h t there (room_for (length records) t room)).leaves.tables;
      survives = λ h t room there only. (all h t there (room_for (length records) t room)).leaves.survives;
    };
    all = all;
  }

  pub leaves_request : (bytes reply : List ℕ) (r : RequestFields) → request_of bytes ≡ Ok r
      → ((bank_seen g new).honest → (r : RequestFields) → request_of bytes ≡ Ok r → (t : Tables)
      → (bank_seen g old).tables t → HasRoomFor 1 t → LeavesRecords g new t moment (bytes ∷ []) (reply ∷ []))
      → LeavesOne g old new moment bytes reply
  leaves_request bytes reply r is one = record {
    by_tables = record {
      are = λ h t room there. (one h r is t there (room_for 1 t room)).answers;
      shows = λ h t room there. (one h r is t there (room_for 1 t room)).tables;
      survives = λ h t room there only. (one h r is t there (room_for 1 t room)).survives;
    };
    one = one;
  }

-- bytes that are no request leave all as it is
pub leaves_malformed : {S : Type 0} (g : Ghosts S) (bank : Bank S g) (moment : ℕ) (bytes reply : List ℕ) (bad : Bad)
    → request_of bytes ≡ Err bad → reply ≡ reply_spelling malformed_reply → LeavesOne g bank bank moment bytes reply
leaves_malformed g bank moment bytes reply bad is out = record {
  by_tables = record {
    are = λ h t room there. ap (λ (l : List ℕ). l ∷ []) (out
        ∙ ap (λ (x : Result RequestFields Bad). reply_read t x) (sym is));
    shows = λ h t room there. subst (λ (x : Result RequestFields Bad). (bank_seen g bank).tables (tables_read t moment x))
        (sym is) there;
    survives = λ h t room there only. subst (λ (x : Result RequestFields Bad). LeavesOnly (bank_seen g bank)
        (λ left. left ≡ tables_read t moment x)) (sym is) only;
  };
  one = λ h r request. absurd (no_request (sym request ∙ is));
}
  where
    no_request : {a : RequestFields} {b : Bad} → ◌≡◌ {A = Result RequestFields Bad} (Ok a) (Err b) → ⊥
    no_request same = cc
