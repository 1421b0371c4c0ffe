use Rattle.std.proofs.Common.{refl}
use Rattle.bank_commands.proofs.Unnamed.{tells_decode}
use Rattle.bank_commands.proofs.files.command_in.Goals as goal

pub returns-in-OnFile : goal.returns-in-OnFile
returns-in-OnFile g c =
    let it = c.task_in.ensures in
    rw (c.in-OnFile.is, c.of_end.ensures) record { tells = it.tells; leaves = it.leaves }

pub returns-in-Why : goal.returns-in-Why
returns-in-Why g c =
    rw (c.in-Why.is, c.of_end-in-Why.ensures) record { tells = c.why_in.ensures; leaves = ((refl, refl, refl), refl) }

pub returns-in-Encode : goal.returns-in-Encode
returns-in-Encode g c =
    rw (c.in-Encode.is, c.of_sheet.ensures) record { tells = c.translate_sheet.ensures; leaves = refl }

pub returns-in-Decode : goal.returns-in-Decode
returns-in-Decode g c =
    rw (c.in-Decode.is, c.of_sheet-in-Decode.ensures) record {
      tells = tells_decode _ _ _ _ _ _ _ _ c.translate_replies-end.ensures;
      leaves = refl;
    }

pub returns-in-Mistaken : goal.returns-in-Mistaken
returns-in-Mistaken g c = rw c.in-Mistaken.is record { tells = (refl, refl); leaves = ((refl, refl, refl), refl) }
