-- The lines written one behind the other.
pub mod Lines
