-- What each probe reports of its table.
use Rattle.std.proofs.Common.{◌≡◌, [], lit≤, refl}
use Rattle.sqlite.specs.Listing.{listing_schema}
use Rattle.sqlite_tied.specs.Compute.{everything}
use Rattle.sqlite_resolve.specs.Program as program
use Rattle.sqlite_resolve.specs.Select.{ungrouped}
use Rattle.sql_meanings.proofs.{Probing.ProbesAs, Texts.IsSelect, Texts.columns_of, Texts.places_of, Texts.probes_by}
use Rattle.sql_meanings.proofs.Texts.{select_of}
use Rattle.store_rows.specs.believed.BankTables as bank
use Rattle.store_rows.specs.Probes.{probe_of}
use Rattle.posting_rules.specs.declared.open_fault.BankTable.{BankTable}
use Rattle.posting_rules.specs.declared.open_fault.BankTable.TheVariants.{Meta, Branch, Teller, Account, History, Request}
use Rattle.posting_rules.specs.declared.open_fault.BankTable.TheVariants.{Closing, Floor, Reference}
use Rattle.store_rows.specs.declared.texts.TheConstants.{PROBE_META, PROBE_BRANCH, PROBE_TELLER, PROBE_ACCOUNT}
use Rattle.store_rows.specs.declared.texts.TheConstants.{PROBE_HISTORY, PROBE_REQUEST, PROBE_FLOOR, PROBE_REFERENCE}
use Rattle.store_rows.specs.declared.texts.TheConstants.{PROBE_CLOSING}

is_meta : IsSelect bank.meta PROBE_META.now 0 (places_of bank.meta)
unfolding everything
is_meta = select_of bank.meta PROBE_META.now 0 _ _ _ _ _ _ _ _ _ refl refl refl (lit≤ tt) refl refl refl refl
    (λ tree. refl) (lit≤ tt)

probes_meta : ProbesAs bank.meta PROBE_META.now
unfolding is_meta everything listing_schema program.program ungrouped
probes_meta = probes_by bank.meta PROBE_META.now _ is_meta (columns_of bank.meta) refl refl refl
    (λ schema p tree has. rw (has.low, has.found)) refl

is_branch : IsSelect bank.branch PROBE_BRANCH.now 0 (places_of bank.branch)
unfolding everything
is_branch = select_of bank.branch PROBE_BRANCH.now 0 _ _ _ _ _ _ _ _ _ refl refl refl (lit≤ tt) refl refl refl
    refl
    (λ tree. refl) (lit≤ tt)

probes_branch : ProbesAs bank.branch PROBE_BRANCH.now
unfolding is_branch everything listing_schema program.program ungrouped
probes_branch = probes_by bank.branch PROBE_BRANCH.now _ is_branch (columns_of bank.branch) refl refl
    refl
    (λ schema p tree has. rw (has.low, has.found)) refl

is_teller : IsSelect bank.teller PROBE_TELLER.now 0 (places_of bank.teller)
unfolding everything
is_teller = select_of bank.teller PROBE_TELLER.now 0 _ _ _ _ _ _ _ _ _ refl refl refl (lit≤ tt) refl refl refl
    refl
    (λ tree. refl) (lit≤ tt)

probes_teller : ProbesAs bank.teller PROBE_TELLER.now
unfolding is_teller everything listing_schema program.program ungrouped
probes_teller = probes_by bank.teller PROBE_TELLER.now _ is_teller (columns_of bank.teller) refl refl refl
    (λ schema p tree has. rw (has.low, has.found)) refl

is_account : IsSelect bank.account PROBE_ACCOUNT.now 0 (places_of bank.account)
unfolding everything
is_account = select_of bank.account PROBE_ACCOUNT.now 0 _ _ _ _ _ _ _ _ _ refl refl refl (lit≤ tt) refl refl
    refl refl
    (λ tree. refl) (lit≤ tt)

probes_account : ProbesAs bank.account PROBE_ACCOUNT.now
unfolding is_account everything listing_schema program.program ungrouped
probes_account = probes_by bank.account PROBE_ACCOUNT.now _ is_account (columns_of bank.account) refl refl refl
    (λ schema p tree has. rw (has.low, has.found)) refl

is_history : IsSelect bank.history PROBE_HISTORY.now 0 (places_of bank.history)
unfolding everything
is_history = select_of bank.history PROBE_HISTORY.now 0 _ _ _ _ _ _ _ _ _ refl refl refl (lit≤ tt) refl refl
    refl refl
    (λ tree. refl) (lit≤ tt)

probes_history : ProbesAs bank.history PROBE_HISTORY.now
unfolding is_history everything listing_schema program.program ungrouped
probes_history = probes_by bank.history PROBE_HISTORY.now _ is_history (columns_of bank.history) refl refl refl
    (λ schema p tree has. rw (has.low, has.found)) refl

is_request : IsSelect bank.request PROBE_REQUEST.now 0 (places_of bank.request)
unfolding everything
is_request = select_of bank.request PROBE_REQUEST.now 0 _ _ _ _ _ _ _ _ _ refl refl refl (lit≤ tt) refl refl
    refl refl
    (λ tree. refl) (lit≤ tt)

probes_request : ProbesAs bank.request PROBE_REQUEST.now
unfolding is_request everything listing_schema program.program ungrouped
probes_request = probes_by bank.request PROBE_REQUEST.now _ is_request (columns_of bank.request) refl refl refl
    (λ schema p tree has. rw (has.low, has.found)) refl

is_floor : IsSelect bank.floor PROBE_FLOOR.now 0 (places_of bank.floor)
unfolding everything
is_floor = select_of bank.floor PROBE_FLOOR.now 0 _ _ _ _ _ _ _ _ _ refl refl refl (lit≤ tt) refl refl refl
    refl
    (λ tree. refl) (lit≤ tt)

probes_floor : ProbesAs bank.floor PROBE_FLOOR.now
unfolding is_floor everything listing_schema program.program ungrouped
probes_floor = probes_by bank.floor PROBE_FLOOR.now _ is_floor (columns_of bank.floor) refl refl refl
    (λ schema p tree has. rw (has.low, has.found)) refl

is_reference : IsSelect bank.reference PROBE_REFERENCE.now 0 (places_of bank.reference)
unfolding everything
is_reference = select_of bank.reference PROBE_REFERENCE.now 0 _ _ _ _ _ _ _ _ _ refl refl refl (lit≤ tt) refl
    refl refl refl
    (λ tree. refl) (lit≤ tt)

probes_reference : ProbesAs bank.reference PROBE_REFERENCE.now
unfolding is_reference everything listing_schema program.program ungrouped
probes_reference = probes_by bank.reference PROBE_REFERENCE.now _ is_reference (columns_of bank.reference) refl
    refl refl
    (λ schema p tree has. rw (has.low, has.found)) refl

is_closing : IsSelect bank.closing PROBE_CLOSING.now 0 (places_of bank.closing)
unfolding everything
is_closing = select_of bank.closing PROBE_CLOSING.now 0 _ _ _ _ _ _ _ _ _ refl refl refl (lit≤ tt) refl refl refl
    refl
    (λ tree. refl) (lit≤ tt)

probes_closing : ProbesAs bank.closing PROBE_CLOSING.now
unfolding is_closing everything listing_schema program.program ungrouped
probes_closing = probes_by bank.closing PROBE_CLOSING.now _ is_closing (columns_of bank.closing) refl refl refl
    (λ schema p tree has. rw (has.low, has.found)) refl

-- what the probe of each table reports
pub probes : (table : BankTable) → ProbesAs (probe_of table).1 (probe_of table).0
probes Meta = probes_meta
probes Branch = probes_branch
probes Teller = probes_teller
probes Account = probes_account
probes History = probes_history
probes Request = probes_request
probes Floor = probes_floor
probes Reference = probes_reference
probes Closing = probes_closing

-- none of the tables refers to another
pub stands_alone : (table : BankTable) → (probe_of table).1.references ≡ []
stands_alone Meta = refl
stands_alone Branch = refl
stands_alone Teller = refl
stands_alone Account = refl
stands_alone History = refl
stands_alone Request = refl
stands_alone Floor = refl
stands_alone Reference = refl
stands_alone Closing = refl
