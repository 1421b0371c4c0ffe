-- The digest goes on by the row that was read, or the row is refused.
use Rattle.std.proofs.Common.{ap, refl, ◌∙◌, arith}
use Rattle.std.proofs.lemmas.List.{length-map}
use Rattle.posting_rules.specs.declared.fault.{Fault.TheVariants.Damaged, Fault.TheVariants.Memory, Rule.TheVariants.Request}
use Rattle.walked_rows.specs.KeptRows.{kept_item}
use Rattle.bank_replays.specs.{Digests.chained, Prefixes.digest_ends, Prefixes.not_write}
use Rattle.bank_store.proofs.KeptEntries.{answered_is}
use Rattle.bank_replays.proofs.Chained.{one_more}
use Rattle.bank_replays.proofs.chain.ChainingVisitorKeptRequestDigest.visit.Goals as goal

pub returns-in_default-clause-part : goal.returns-in_default-clause-part
returns-in_default-clause-part c first rows visited = digest_ends first rows (Damaged Request) (λ is. absurd cc)

pub returns-in_default-clause-why : goal.returns-in_default-clause-why
returns-in_default-clause-why c = (refl, λ answered. c.in_default.ensures.none answered.0)

pub returns-in_default-reply_of-clause-part : goal.returns-in_default-reply_of-clause-part
returns-in_default-reply_of-clause-part c first rows visited = digest_ends first rows (Damaged Request) (λ is. absurd cc)

pub returns-in_default-reply_of-clause-why : goal.returns-in_default-reply_of-clause-why
returns-in_default-reply_of-clause-why c = (refl, λ answered. c.in_default-reply_of.ensures.none answered.1)

pub returns-in_default-checked_add-clause-part : goal.returns-in_default-checked_add-clause-part
returns-in_default-checked_add-clause-part c first rows visited = (
  not_write Memory,
  λ is. omega (arith, visited.requests, length-map rows kept_item, c.in_default-checked_add.ensures),
)

pub returns-clause-visited : goal.returns-clause-visited
returns-clause-visited c first rows visited =
    let row = c.args.row in
    let before = c.args.digest.now in
    let came = c.in-Some.ensures.some in
    let got = c.in-Some-reply_of.ensures.some in
    one_more first before
    (record { requests = c.in-Some-checked_add.requests; sha256 = c.chained-digest.result }) rows row visited
    (omega (arith, c.in-Some-checked_add.ensures))
    (c.chained-digest.ensures
    ∙ ap (chained before.sha256)
    (answered_is row c.in-Some.request c.in-Some-reply_of.reply c.moment_of.result came.0 got.0 c.moment_of.ensures))
    (came.1, got.1)
