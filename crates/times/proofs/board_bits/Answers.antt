-- `times::board_bits` meets its contract: each call gave one bit. Assumes nothing.
use Rattle.std.proofs.Common.{rules}
use Rattle.lists.proofs.Many.{one_bit}
use Rattle.lists.proofs.Tab.{tab_of}
use Rattle.times.specs.Own.{board_bit}
use Rattle.times.proofs.board_bits.Goals as goal

pub returns : goal.returns
unfolding board_bit
returns c = let h = c.from_fn.ensures.items in tab_of board_bit 32 _ h.long (λ k l. search (rules, h.at k 0 l, one_bit k l))
