-- `saving::save` meets its contract: the words that the check lets through are picks without a forbidden bit.
-- Assumes nothing.
use Rattle.saving.proofs.Lends.{clean_lent}
use Rattle.saving.proofs.save.Goals as goal

pub invariant_of-file-clause-clean : goal.invariant_of-file-clause-clean
invariant_of-file-clause-clean c =
    let l = c.new-lent.result in
    clean_lent l.n l.m l.words.now l.room c.if-not-are_clean.ensures
