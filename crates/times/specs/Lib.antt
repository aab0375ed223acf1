-- Definitions that the contracts of `times` cite, and what a table of times tells.
pub mod Times
pub mod Own
pub mod Tells
pub mod Pairs
