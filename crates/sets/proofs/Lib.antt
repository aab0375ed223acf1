-- What is made of a row, and which bits a set has.
pub mod Bits
