-- The commands of a recording file, and the causes to refuse one.
pub mod Commands
pub mod Causes
