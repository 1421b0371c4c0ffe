use Rattle.std.proofs.Common.{◌≡◌, None, refl, sym}
use Rattle.csv.specs.Records.{fields_of}
use Rattle.branch_loader.specs.Plans.{parts_of}
use Rattle.branch_loader.proofs.read.row_of_fields.Goals as goal

pub returns-in-None : goal.returns-in-None
returns-in-None c =
    let none : parts_of c.args.has_floors (fields_of c.args.fields.now) ≡ None =
    sym (rw c.in-None.is at c.parts_of.ensures) in
    rw none refl
