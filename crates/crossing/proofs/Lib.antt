-- Laws of places and answers as words.
pub mod Fits
