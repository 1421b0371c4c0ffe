use Rattle.clap.specs.Words.{found_of}
use Rattle.command_line.proofs.Getters.{number_read}
use Rattle.command_line.proofs.reading.number_in.Goals as goal

pub returns : goal.returns
returns c =
    let given = c.get_one in
    number_read (found_of c.args.values.now) c.args.id.now given.result given.ensures.none given.ensures.value
