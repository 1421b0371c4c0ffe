use Rattle.std.proofs.Common.{◌∙◌, inl, inr, map, refl, sym, Ok, Err}
use Rattle.clap.specs.Words.{kind_of}
use Rattle.bank_commands.proofs.Told.{status_is_not_usage, told_is_not_usage}
use Rattle.bank_commands.proofs.Endings.{help_ends, memory_ends, memory_is_no_request, mistake_ends}
use Rattle.bank_commands.proofs.Endings.{mistake_keeps, not_asked, system_is_not_usage, taken_memory}
use Rattle.command_line.proofs.Printed.{in_part}
use Rattle.bank_commands.proofs.running.run.Goals as goal

-- ---- words that clap doesn't take, or that there was no memory to read

pub returns-in-Err : goal.returns-in-Err
returns-in-Err g c =
    let kind = kind_of c.in-Err.error in
    let words = map g.T.AsStr.text c.args.words.now in
    let says = c.in-Err.ensures in
    let shown = c.explain.ensures in
    record {
      refused = λ refused.
          mistake_ends kind c.explain.result (not_asked words kind refused says.fault) shown.status;
      silent = λ refused. mistake_keeps kind _ _ (not_asked words kind refused says.fault) shown.silent;
      unread = λ some. refl;
      help = λ asks. help_ends kind c.explain.result (says.help asks) shown.status;
      taken = λ takes.
          system_is_not_usage c.explain.result
          (memory_ends kind c.explain.result (taken_memory words kind says.taken says.fault takes) shown.status);
      runs = λ takes.
          let memory = taken_memory words kind says.taken says.fault takes in
          inr (
            memory_ends kind c.explain.result memory shown.status,
            ((refl, refl, refl), refl),
            mistake_keeps kind _ _ (memory_is_no_request kind memory) shown.silent,
          );
    }

-- ---- a command that did its work, and one that didn't: words that clap takes aren't refused, and ask for no
-- help

pub returns-in-Ok-command_in : goal.returns-in-Ok-command_in
returns-in-Ok-command_in g c =
    let says = c.in-Ok.ensures in
    let did = c.in-Ok-command_in.ensures in
    record {
      refused = λ refused. absurd (refused.some says.fault);
      silent = λ refused. absurd (refused.some says.fault);
      unread = λ some. absurd (some says.fault);
      help = λ asks. absurd (says.help asks);
      taken = λ takes. told_is_not_usage c.in-Ok.command _ _ c.in-Ok-command_in.status did.tells;
      runs = λ takes. inl record {
        command = c.in-Ok.command;
        read = says.command;
        end = Ok c.in-Ok-command_in.status;
        tells = did.tells;
        leaves = did.leaves;
        ends = refl;
        said = in_part _ _ _ _ _ c.prompt.ensures;
      };
    }

pub returns-in-Err-command_in : goal.returns-in-Err-command_in
returns-in-Err-command_in g c =
    let says = c.in-Ok.ensures in
    record {
      refused = λ refused. absurd (refused.some says.fault);
      silent = λ refused. absurd (refused.some says.fault);
      unread = λ some. absurd (some says.fault);
      help = λ asks. absurd (says.help asks);
      taken = λ takes other. status_is_not_usage c.in-Err-command_in.fault (sym c.tell.ensures.status ∙ other);
      runs = λ takes. inl record {
        command = c.in-Ok.command;
        read = says.command;
        end = Err c.in-Err-command_in.fault;
        tells = c.in-Err-command_in.ensures.tells;
        leaves = c.in-Err-command_in.ensures.leaves;
        ends = c.tell.ensures.status;
        said = (_, in_part _ _ _ _ _ c.prompt.ensures, c.tell.ensures.said);
      };
    }
