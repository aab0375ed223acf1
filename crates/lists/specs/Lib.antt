-- Definitions that the contracts of `lists` cite.
pub mod Tab
