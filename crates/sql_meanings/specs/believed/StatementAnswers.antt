-- What a statement inside a transaction answers, why it may fail, and what it leaves.
use Rattle.sql_meanings.specs.Names.{Bool, true, false}
use Rattle.sql_meanings.specs.Names.{PrimaryKey}
use Rattle.sql_meanings.specs.Names.{Error, SqliteFailure}
use Rattle.sqlite.specs.declared.error.ErrorCode.TheVariants.{ConstraintViolation}

-- the error says that a key is taken
abbrev pub is_taken_key : Error → Bool
is_taken_key (SqliteFailure (ConstraintViolation PrimaryKey)) = true
is_taken_key _ = false
