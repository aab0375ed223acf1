-- Definitions that the contracts of `naive_walk` cite.
pub mod Bounds
pub mod Room
