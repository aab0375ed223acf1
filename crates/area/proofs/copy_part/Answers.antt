-- `area::copy_part` meets its contract: a part that is copied onto itself stays as it is.
-- Assumes nothing.
use Rattle.area.proofs.Stored.{copy_self}
use Rattle.area.proofs.copy_part.Goals as goal

pub returns-then-d-l : goal.returns-then-d-l
returns-then-d-l c = copy_self _ _ _ _ c.if-d-l.true
