-- Definitions that the contracts of `joins` cite.
pub mod Columns
pub mod LookUps
pub mod Warshall
