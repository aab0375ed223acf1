-- The words of a table, as a test of the measure says them.
pub mod Words
