-- Definitions that the contracts of `folds` cite.
pub mod Folds
