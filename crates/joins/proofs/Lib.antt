-- Laws of the loops over columns, passes and rows.
pub mod Rows
pub mod Closure
pub mod Everywhere
pub mod LookUps
