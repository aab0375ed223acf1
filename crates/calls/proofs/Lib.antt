-- The area as opening leaves it, what a pick leaves, and the loops of a whole run.
pub mod Opened
pub mod Taken
pub mod Loops
