use Rattle.std.specs.Prelude.{string_bytes}
use Rattle.command_line.proofs.replaying.differing_text.Goals as goal

pub returns : goal.returns
returns g c = (string_bytes c.in_ok-text.text, c.in_ok-text.ensures.ok, c.in_ok-push_str.ensures.bytes)
