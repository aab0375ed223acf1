-- Laws of the texts, and of bytes put one behind the other.
pub mod Text
pub mod Appends
