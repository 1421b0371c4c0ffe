-- The two are one row.
use Rattle.std.proofs.Common.{List, [], ◌∷◌, sym, ap, ◌∙◌}
use Rattle.bank_replays.proofs.SameNumbers.{Two, entry_of, number, numbers_of, numbers_same, same_numbers, whole}
use Rattle.bank_replays.proofs.compared.StoredPostingCompared.is_same.Goals as goal

pub returns : goal.returns
returns c =
    let s = c.args.self.now in
    let d = c.args.due.now in
    let ps : List Two = whole s.ordinal d.ordinal ∷ number s.account d.account ∷ number s.teller d.teller ∷ number s.branch d.branch
    ∷ number s.delta d.delta ∷ whole s.moment d.moment ∷ [] in (
      λ are. ap entry_of (same_numbers ps (sym c.eq.ensures ∙ are)),
      λ same. c.eq.ensures ∙ numbers_same ps (ap numbers_of same),
    )
