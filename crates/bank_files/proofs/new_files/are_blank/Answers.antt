use Rattle.bank_files.proofs.new_files.are_blank.Goals as goal

pub returns-in-Ok-clause-blank : goal.returns-in-Ok-clause-blank
returns-in-Ok-clause-blank g c it clean = rw c.page_size.ensures at ((c.in-Ok.ensures.ok clean).0 it)
