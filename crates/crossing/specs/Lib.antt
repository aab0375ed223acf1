-- Definitions that the contracts of `crossing` cite.
pub mod Words
