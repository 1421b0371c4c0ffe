-- What clap makes of the words that it is given is said of the words of the command line.
use Rattle.std.proofs.Common.{◌≡◌, ◌∙◌, [], ap, map, rules, subst, sym, List}
use Rattle.std.proofs.lemmas.Result.{err_from_is_err_and}
use Rattle.clap.specs.Words.{FailsBy, Text, fault_of, subcommand_of, subcommand_rows_of, takes}
use Rattle.command_line.specs.{CommandLine.bank_app, Words.words_read}
use Rattle.command_line.proofs.Help.{help_given, no_help_asked}
use Rattle.command_line.proofs.OwnWords.{fails_as_read, same_at_none, taken_as_read}
use Rattle.command_line.proofs.reading.read_words.Goals as goal

pub returns-in_err-matches : goal.returns-in_err-matches
returns-in_err-matches g c =
    let words = map g.S.AsStr.text c.args.words.now in
    let given = map g.S.AsStr.text c.own_words.result.now in
    let error = c.in_err-matches.field-0.0 in
    let is = err_from_is_err_and c.from_residual.result c.from_residual.ensures.1 in
    let as_given : FailsBy (fault_of bank_app given) c.from_residual.result = search rules in
    let fails : FailsBy (fault_of bank_app (words_read words)) c.from_residual.result =
    subst (λ (w : List Text). FailsBy (fault_of bank_app w) c.from_residual.result) c.own_words.ensures as_given in
    let taken = taken_as_read error words
    (λ takes_read. c.in_err-matches.ensures.taken (ap (takes bank_app) c.own_words.ensures ∙ takes_read)) in
    record {
      command = rw is.1 tt;
      ranges = rw is.1 tt;
      taken = rw (is.1, is.2) taken;
      fault = fails_as_read c.from_residual.result words fails;
      help = help_given c.from_residual.result words fails;
    }

pub returns-in-Some : goal.returns-in-Some
returns-in-Some g c =
    let words = map g.S.AsStr.text c.args.words.now in
    let none : fault_of bank_app (words_read words) ≡ [] =
    subst (λ (w : List Text). fault_of bank_app w ≡ []) c.own_words.ensures c.in_ok-matches.ensures.fault in
    let same = c.own_words.ensures ∙ same_at_none words none in
    let asked : subcommand_rows_of c.in_ok-matches.matches ≡ subcommand_of bank_app words =
    c.in_ok-matches.ensures.matches ∙ ap (subcommand_of bank_app) same in
    record {
      command = rw asked at c.in-Some.ensures.command;
      ranges = c.in-Some.ensures.ranges;
      taken = tt;
      fault = ap (fault_of bank_app) (sym (same_at_none words none)) ∙ none;
      help = no_help_asked words none;
    }
