-- Records that are posted together are commands more.
use Rattle.std.proofs.Common.{rules, ◌≡◌, ◌+◌, ◌++◌, ◌∷◌, [], ℕ, List, Err, length, map, refl, sym, ap, subst, ◌∙◌}
use Rattle.std.proofs.Common.{append-nil, arith}
use Rattle.std.proofs.lemmas.List.{length-append, length-map}
use Rattle.posting_rules.proofs.ByCommands.{posts_replied, posts_taken}
use Rattle.posting_core.specs.Entries.{record_text, reply_text}
use Rattle.posting_core.specs.believed.LogEntries.{AnsweredRequest}
use Rattle.branch_loader.specs.Following.{HasOpened, IsFirstOther, opened_by, planned}
use Rattle.branch_loader.specs.declared.follow_fault.FollowFault.TheVariants.{Bank}
use Rattle.branch_loader.specs.declared.follow_fault.OtherReply.{OtherReply}
use Rattle.branch_loader.proofs.Following.{differed, followed_more, for_others, opened_for, opened_none, looks_still, no_entry_waits, posts_open_none, refused_then}
use Rattle.branch_loader.proofs.Following.{texts_are_posts, texts_open_first}
use Rattle.branch_loader.proofs.followers.post_together.Goals as goal

no_texts : (texts : List (List ℕ)) → length texts ≡ 0 → texts ≡ []
no_texts [] zero = refl
no_texts (text ∷ more) zero = absurd (omega (arith, zero))

-- where there are records, there are entries
some_records : (entries : List AnsweredRequest) (records : List (List ℕ)) → records ≡ map record_text entries
    → (length records ≡ 0 → ⊥) → entries ≡ [] → ⊥
some_records entries records are some none =
    some (ap (λ (l : List (List ℕ)). length l) are ∙ length-map entries record_text
    ∙ ap (λ (l : List AnsweredRequest). length l) none)

pub returns-then-is_empty : goal.returns-then-is_empty
returns-then-is_empty g c first rows looked done entries next it counted texts ready =
    let zero : length c.args.records.now ≡ 0 = grind arith in
    let none = no_texts c.args.records.now zero in
    opened_none g.C.Counter.seen g.C.Counter.spares rows first c.args.counter.now looked done entries next
    (no_entry_waits _ c.args.records.now _ entries texts none) it

pub returns-in_err-replies : goal.returns-in_err-replies
returns-in_err-replies g c first rows looked done entries next it counted texts ready =
    let fault = c.in_err-replies.field-0.0 in
    let same : c.from_residual.result ≡ Err (Bank fault) = search rules in
    rw same (refused_then g.C.Counter.seen g.C.Counter.spares rows first c.args.counter.now c.submit_all.new.self
    (g.met.C.Counter.spares_then first c.args.counter.now c.submit_all.new.self) done entries next it.followed _
    (texts_are_posts (planned rows) c.args.moment c.args.records.now _ entries texts)
    (texts_open_first rows (opened_by it.followed.commands) c.args.moment c.args.records.now _ entries next texts ready)
    g.C.Counter.contents g.C.Counter.reason fault c.in_err-replies.ensures.call c.in_err-replies.ensures.spares)

same_other : (n n' : ℕ) (given given' due due' : List (List ℕ)) (other : OtherReply) → IsFirstOther n given due other
    → n ≡ n' → given ≡ given' → due ≡ due' → IsFirstOther n' given' due' other
same_other n n' given given' due due' other it count one two = record {
  alike = it.alike;
  given_after = it.given_after;
  due_after = it.due_after;
  given_are = sym one ∙ it.given_are;
  due_are = sym two ∙ it.due_are;
  differ = it.differ;
  entry = it.entry ∙ ap (λ (k : ℕ). k + length it.alike + 1) count;
}

-- as many replies are due as records were posted
as_many : (entries : List AnsweredRequest) (records replies due : List (List ℕ)) → records ≡ map record_text entries
    → due ≡ map reply_text entries → length replies ≡ length records → length replies ≡ length due
as_many entries records replies due ours theirs same =
    same ∙ ap (λ (l : List (List ℕ)). length l) ours ∙ length-map entries record_text
    ∙ sym (ap (λ (l : List (List ℕ)). length l) theirs ∙ length-map entries reply_text)

pub returns-in-None : goal.returns-in-None
returns-in-None g c first rows looked done entries next it counted texts ready =
    let given = c.in_ok-replies.ensures in
    let same : c.in_ok-replies.replies.items ≡ map reply_text entries =
    sym c.as_slice.ensures.value
    ∙ c.in-None.ensures.none (rw c.as_slice.ensures.value (as_many entries _ _ _ texts.records_are texts.replies_are given.count))
    ∙ texts.replies_are in
    followed_more g.C.Counter.seen g.C.Counter.spares rows first c.args.counter.now c.submit_all.new.self
    (g.met.C.Counter.spares_then first c.args.counter.now c.submit_all.new.self) done entries next it.followed _
    (texts_are_posts (planned rows) c.args.moment c.args.records.now _ entries texts)
    (texts_open_first rows (opened_by it.followed.commands) c.args.moment c.args.records.now _ entries next texts ready)
    g.C.Counter.contents g.C.Counter.reason _ given.call given.spares
    (posts_taken _ _ c.args.moment c.args.records.now _ given.by_tables) looked
    (looks_still rows looked (opened_by it.followed.commands) _ (posts_open_none c.args.moment c.args.records.now) it.looks)
    (λ h log shows. sym (given.answer h log shows) ∙ same)
    (λ h t room there. posts_replied _ _ c.args.moment c.args.records.now _ given.by_tables h t room there ∙ same)

pub returns : goal.returns
returns g c first rows looked done entries next it counted texts ready few =
    let given = c.in_ok-replies.ensures in
    let replies = c.in_ok-replies.replies.items in
    let due = c.args.due.now in
    let same : length replies ≡ length due = as_many entries _ _ _ texts.records_are texts.replies_are given.count in
    let all : length (done ++ entries) ≡ length done + length due = length-append done entries
    ∙ ap (λ (n : ℕ). length done + n) (sym (ap (λ (l : List (List ℕ)). length l) texts.replies_are ∙ length-map entries reply_text)) in
    let before : c.args.before ≡ length done = counted (omega (arith, few, all)) in
    let ours : length due ≡ length c.args.records.now =
    ap (λ (l : List (List ℕ)). length l) texts.replies_are ∙ length-map entries reply_text
    ∙ sym (ap (λ (l : List (List ℕ)). length l) texts.records_are ∙ length-map entries record_text) in
    let shown : length c.as_slice.result.now ≡ length replies = ap (λ (l : List (List ℕ)). length l) c.as_slice.ensures.value in
    let other = c.in-Some.ensures.other (omega (arith, few, all, before, same, shown)) in
    let alone = for_others g.C.Counter.seen g.C.Counter.spares rows first c.args.counter.now done (entries ++ next)
    (entries ++ []) it.followed (opened_for g.C.Counter.seen g.C.Counter.spares g.C.Counter.reason rows first
    c.args.counter.now entries done entries next looked it
    (λ none. some_records _ _ texts.records_are (grind arith) none)) in
    differed g.C.Counter.seen g.C.Counter.spares rows first c.args.counter.now c.submit_all.new.self
    (g.met.C.Counter.spares_then first c.args.counter.now c.submit_all.new.self) done entries [] alone _
    (texts_are_posts (planned rows) c.args.moment c.args.records.now _ entries texts)
    (texts_open_first rows (opened_by it.followed.commands) c.args.moment c.args.records.now _ entries [] texts ready)
    g.C.Counter.contents g.C.Counter.reason _ given.call given.spares
    (posts_taken _ _ c.args.moment c.args.records.now _ given.by_tables) refl c.in-Some.other
    (omega (arith, all, ours, other.entry, before, c.requires))
    (λ h log shows. same_other _ _ _ _ _ _ c.in-Some.other other before
    (c.as_slice.ensures.value ∙ given.answer h log shows) texts.replies_are)
    (λ h t room there. same_other _ _ _ _ _ _ c.in-Some.other other before
    (c.as_slice.ensures.value
    ∙ sym (posts_replied _ _ c.args.moment c.args.records.now _ given.by_tables h t room there)) texts.replies_are)
