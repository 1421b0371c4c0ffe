-- What a call that succeeded spares and makes.
use Rattle.std.specs.Prelude.{ℕ, List, Result, OnOk}
use Rattle.sqlite.specs.Order.{Row}
use Rattle.sqlite.specs.State.{State}
use Rattle.store_rows.specs.believed.Made.{Makes}
use Rattle.store_rows.specs.believed.Sparing.{SparesOthers}

-- after `Ok` they are
abbrev pub SparesIfOk : {X E : Type 0} → State → State → Result X E → Type 0
SparesIfOk old new result = OnOk result (SparesOthers old.now new.now)

-- after `Ok` the text, run with these values, made what there is
abbrev pub MakesIfOk : {X E : Type 0} → List ℕ → Row → State → State → Result X E → Type 0
MakesIfOk text values old new result = OnOk result (Makes text values old.now new.now)
