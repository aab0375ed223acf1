-- Definitions that the contracts of `searches` cite.
pub mod Search
