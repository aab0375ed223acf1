-- Definitions that the contracts of `area` cite.
pub mod Parts
