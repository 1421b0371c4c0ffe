-- Room for rows that are read ahead.
use Rattle.arrayvec.specs.Iter.{ArrayVecFitsInMemory}
use Rattle.walked_rows.specs.declared.ahead.TheConstants.{AHEAD}
use denote.Builtin.{unit}
use denote.Param.{number}
use denote.RattleType.{RattleType}

-- so many rows of this type fit in memory
abbrev pub RoomFits : RattleType → Type 0
RoomFits R = ArrayVecFitsInMemory R (number AHEAD) unit
