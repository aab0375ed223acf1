-- Laws of the call for the table.
pub mod Picks
