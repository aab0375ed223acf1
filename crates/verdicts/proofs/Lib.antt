-- Verdicts read forwards and back.
pub mod Verdicts
