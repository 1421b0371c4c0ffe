use Rattle.clap.specs.Words.{found_of}
use Rattle.command_line.proofs.Getters.{number_tried}
use Rattle.command_line.proofs.reading.number_if_any.Goals as goal

pub returns : goal.returns
returns c =
    let given = c.try_get_one in
    number_tried (found_of c.args.values.now) c.args.id.now given.result c.ok.result given.ensures.none
    given.ensures.value c.ok.ensures.value
