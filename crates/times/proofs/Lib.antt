-- Laws of tables of times.
pub mod Cells
pub mod Rows
pub mod Pairs
pub mod Times
pub mod Unmet
pub mod OwnRow
