-- The decision problem of source document 002: the walk that is held at one window length, and what the call answers and leaves.
pub mod Held
pub mod Decisions
pub mod Fit
