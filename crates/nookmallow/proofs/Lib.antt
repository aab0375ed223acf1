-- That every number that crosses to C fits a word of 32 bits, and that a refused pick hands back its own words.
pub mod Bounds
