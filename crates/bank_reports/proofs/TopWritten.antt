-- The statements of all accounts below what stands above all, of postings by account as of those that were gathered.
use Rattle.std.proofs.Common.{◌≡◌, ◌++◌, ℕ, List, [], ◌∷◌, Option, Ok, Err, refl, sym, ap, ◌∙◌, append-nil, append_assoc}
use Rattle.std.specs.{Io.KnownBytes.Appends, List.list_any}
use Rattle.std.proofs.KnownBytes.{Appends-trans}
use Rattle.posting_rules.specs.declared.fault.{Fault.TheVariants.Damaged, Rule.TheVariants.Balance}
use Rattle.walked_rows.specs.declared.stated.StatedPosting.{StatedPosting}
use Rattle.report_contents.specs.AllStatements.{AreListed, account_text, is_listed, postings_of}
use Rattle.report_contents.specs.AllStatements.{statements_text, text_up_to, top_of}
use Rattle.report_contents.specs.{Queries.is_selected, Written.AppendsPart}
use Rattle.report_contents.specs.declared.query.Query.{Query}
use Rattle.report_contents.proofs.Written.{first_part, same_all, same_part, then_part}
use Rattle.bank_reports.specs.declared.fault.ReportFault.{ReportFault}
use Rattle.bank_reports.specs.declared.fault.ReportFault.TheVariants.{Bank, Write}
use Rattle.bank_reports.specs.{AllPostings.WritesGathered, Gathering.IsByAccount, Parts.WritesParts, Parts.parts_text}
use Rattle.bank_reports.proofs.ByAccount.{listing}

module _ (query : Query) (gathered rows : List StatedPosting) (by : IsByAccount gathered rows) where
  -- the same accounts
  same_listed : (accounts : List ℕ) → AreListed query.selection rows accounts
      → AreListed query.selection gathered accounts
  same_listed accounts listed = record {
    rise = listed.rise;
    are = λ a.
        let same : is_listed query.selection rows a ≡ is_listed query.selection gathered a =
        ap (list_any (is_selected query.selection)) (by.same a) in
        (λ has. sym same ∙ (listed.are a).0 has, λ is. (listed.are a).1 (same ∙ is));
  }

  -- and the same texts
  same_text : (accounts : List ℕ) → parts_text query rows accounts ≡ parts_text query gathered accounts
  same_text [] = refl
  same_text (a ∷ accounts) =
      ap (λ l. l ++ parts_text query rows accounts) (ap (account_text query a) (by.same a))
      ∙ ap (λ l. account_text query a (postings_of a gathered) ++ l) (same_text accounts)

  same_whole : (accounts : List ℕ)
      → top_of query.layout ++ parts_text query rows accounts ≡ statements_text query gathered accounts
  same_whole accounts = ap (λ l. top_of query.layout ++ l) (same_text accounts)

  module _ (old : Option (List ℕ)) where
    -- what stands above all wasn't written, or not all of it
    pub top_end : (new : Option (List ℕ)) → AppendsPart old new (top_of query.layout)
        → WritesGathered query gathered old new (Err Write)
    top_end new part =
        let it = listing query.selection rows by.numbers in (
          statements_text query gathered it.0,
          record { accounts = it.0; listed = same_listed it.0 it.1; is = refl },
          first_part old new (top_of query.layout) (parts_text query gathered it.0) part,
        )

    module _ (mid : Option (List ℕ)) (top : Appends old mid (top_of query.layout)) where
      pub parts_end : (new : Option (List ℕ)) (fault : ReportFault) → WritesParts query rows mid new (Err fault)
          → WritesGathered query gathered old new (Err fault)
      parts_end new Write it = (
        statements_text query gathered it.0,
        record { accounts = it.0; listed = same_listed it.0 it.1; is = refl },
        same_part old new (same_whole it.0)
            (then_part old mid new (top_of query.layout) (parts_text query rows it.0) top it.2),
      )
      parts_end new (Bank (Damaged Balance)) it =
          let stops = it.4 in (
            statements_text query gathered it.0 ++ text_up_to query it.1 (postings_of it.1 gathered) stops.given,
            record {
              earlier = it.0;
              account = it.1;
              later = it.2;
              listed = same_listed (it.0 ++ it.1 ∷ it.2) it.3;
              given = stops.given;
              next = stops.next;
              more = stops.more;
              are = sym (by.same it.1) ∙ stops.are;
              beyond = stops.beyond;
              is = refl;
            },
            same_all old new
                (sym (append_assoc (top_of query.layout) (parts_text query rows it.0)
                (text_up_to query it.1 (postings_of it.1 rows) stops.given))
                ∙ ap (λ l. l ++ text_up_to query it.1 (postings_of it.1 rows) stops.given) (same_whole it.0)
                ∙ ap (λ rs. statements_text query gathered it.0 ++ text_up_to query it.1 rs stops.given) (by.same it.1))
                (Appends-trans old mid new (top_of query.layout) _ top stops.wrote),
          )
      parts_end new other never = absurd never

      pub parts_written : (new : Option (List ℕ)) → WritesParts query rows mid new (Ok tt)
          → WritesGathered query gathered old new (Ok tt)
      parts_written new it = (
        statements_text query gathered it.0,
        record { accounts = it.0; listed = same_listed it.0 it.1; is = refl },
        same_all old new (same_whole it.0)
            (Appends-trans old mid new (top_of query.layout) (parts_text query rows it.0) top it.2),
      )

-- ---- nothing more is written, and the writer is flushed

module _ (query : Query) (gathered : List StatedPosting) (old late new : Option (List ℕ))
    (it : WritesGathered query gathered old late (Ok tt)) where
  pub flush_end : AppendsPart late new [] → WritesGathered query gathered old new (Err Write)
  flush_end part = (it.0, it.1, same_part old new (append-nil it.0) (then_part old late new it.0 [] it.2 part))

  pub flushed : Appends late new [] → WritesGathered query gathered old new (Ok tt)
  flushed nothing = (it.0, it.1, same_all old new (append-nil it.0) (Appends-trans old late new it.0 [] it.2 nothing))
