-- Definitions that the contracts of `place` cite.
pub mod Places
