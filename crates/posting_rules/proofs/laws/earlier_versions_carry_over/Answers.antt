use Rattle.posting_rules.proofs.Editions.{carries_over, plain_are_commands, has_no_floors, has_no_references}
use Rattle.posting_rules.proofs.Editions.{is_present}
use Rattle.posting_rules.proofs.laws.earlier_versions_carry_over.Goals as goal

pub returns-clause-tables : goal.returns-clause-tables
returns-clause-tables c = carries_over

pub returns-clause-commands : goal.returns-clause-commands
returns-clause-commands c = plain_are_commands

pub returns-clause-no_floors : goal.returns-clause-no_floors
returns-clause-no_floors c = has_no_floors

pub returns-clause-no_references : goal.returns-clause-no_references
returns-clause-no_references c = has_no_references

pub returns-clause-present : goal.returns-clause-present
returns-clause-present c = is_present
