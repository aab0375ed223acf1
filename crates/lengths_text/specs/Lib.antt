-- What is printed for a file.
pub mod LengthsText
