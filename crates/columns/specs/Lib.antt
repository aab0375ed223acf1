-- Numbers and dashes as text, and what is promised of them.
pub mod Text
pub mod Columns
