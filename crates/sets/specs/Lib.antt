-- Definitions that the contracts of `sets` cite.
pub mod Marks
