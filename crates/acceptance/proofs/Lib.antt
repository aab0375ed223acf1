-- Each statement of `specs/`, proved.
pub mod Condition1
pub mod Condition2
pub mod Condition3
pub mod Cases
pub mod Area
pub mod Longer
pub mod Decision
pub mod Saving
