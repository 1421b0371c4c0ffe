-- Room for a walk.
use Rattle.std.specs.Prelude.{◌<◌, ◌^◌}
use prog.Memory.{align, size}
use denote.RattleType.{RattleType}
use denote.Param.{layout}

-- a value of this type takes so few bytes that there is room for a walk over a table of them
abbrev pub TakesFewBytes : RattleType → Type 0
TakesFewBytes R = (align (layout R) < 2 ^ 8) × (size (layout R) < 2 ^ 16)
