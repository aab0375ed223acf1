-- What the calls promise.
pub mod Answers
pub mod Calls
pub mod Fit
