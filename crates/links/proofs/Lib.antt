-- Laws of the tables of links.
pub mod Bits
pub mod Begins
pub mod Gather
pub mod First
pub mod Ways
pub mod Tells
pub mod Unmet
pub mod Picks
pub mod Chunks
