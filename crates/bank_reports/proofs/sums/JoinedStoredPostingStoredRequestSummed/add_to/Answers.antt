-- One more posting.
use Rattle.std.proofs.Common.{[], ◌∷◌, map, sym, subst}
use Rattle.std.proofs.lemmas.List.{map-append}
use Rattle.report_contents.specs.Added.{HasBeside}
use Rattle.bank_reports.specs.Adding.{both}
use Rattle.bank_reports.proofs.sums.JoinedStoredPostingStoredRequestSummed.add_to.Goals as goal

pub returns : goal.returns
returns c rows given h = record {
  tellers = h.tellers;
  branches = h.branches;
  accounts = h.accounts;
  ordinals = subst (λ l. HasBeside c.add_posting.new.self rows.requests l)
      (sym (map-append both given (c.args.self ∷ [])))
      (c.add_posting.ensures.added rows.requests (map both given) h.ordinals);
}
