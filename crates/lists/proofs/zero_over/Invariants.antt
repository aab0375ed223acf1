-- `lists::zero_over` meets its contract. Assumes nothing.
use Rattle.lists.proofs.Tab.{Made, zero_word}
use Rattle.lists.proofs.zero_over.Given as goal

abbrev pub invariant-loop-word : goal.invariant-loop-word
invariant-loop-word l = Made zero_word l.initial.out l.out l.word-index
