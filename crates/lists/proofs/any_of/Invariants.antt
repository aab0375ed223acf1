-- `lists::any_of` meets its contract. The invariant is the definition at the index. Assumes nothing.
use Rattle.std.proofs.Common.{◌≡◌, get_or}
use Rattle.lists.specs.Tab.{any_of}
use Rattle.lists.proofs.any_of.Given as goal

abbrev pub invariant-loop-word : goal.invariant-loop-word
invariant-loop-word l = l.any ≡ any_of (λ i. get_or l.words i 0) l.word-index
