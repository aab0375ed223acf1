-- `joins::unions` meets its contract: the array is the table, entry by entry (`unions-tab`).
-- Assumes nothing.
use lib.Bits.{bit_or, or_zero_l, or_zero_r}
use Rattle.joins.specs.LookUps.{four_of, unions_of}
use Rattle.joins.proofs.LookUps.{unions-tab}
use Rattle.joins.proofs.unions.Goals as goal

pub returns : goal.returns
unfolding unions_of four_of
returns c = unions-tab bit_or or_zero_l or_zero_r _ _ _ _
