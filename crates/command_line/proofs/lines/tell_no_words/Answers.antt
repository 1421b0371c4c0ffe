-- Words that couldn't be read, though memory was there.
use Rattle.std.proofs.Common.{◌≡◌, ◌≢◌, refl, rules}
use Rattle.std.specs.{Prelude.codes, IoError.error_kind, declared.io.ErrorKind.ErrorKind}
use Rattle.std.specs.{declared.io.ErrorKind.TheVariants.OutOfMemory}
use Rattle.command_line.specs.Lines.{line, no_words_line}
use Rattle.command_line.proofs.Printed.{in_part}
use Rattle.command_line.proofs.lines.tell_no_words.Goals as goal

no_text : (k : ErrorKind) → k ≢ OutOfMemory → no_words_line k ≡ line (codes "error: a word isn't UTF-8")
no_text OutOfMemory other = absurd (other refl)
no_text _ other = refl

pub returns-in_default-clause-said : goal.returns-in_default-clause-said
returns-in_default-clause-said g c =
    let other : error_kind c.args.error.now ≢ OutOfMemory = search rules in
    rw (no_text (error_kind c.args.error.now) other) (in_part _ _ _ _ _ c.say.ensures)
