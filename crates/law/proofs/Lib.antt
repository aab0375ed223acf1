-- The claims of `specs/`, proved, and the way to them.
pub mod Faithful
pub mod Kits
pub mod Condition3
pub mod Unlimited
pub mod Ladders
pub mod MinWalk
pub mod MaxWalk
pub mod Walks
pub mod Held
pub mod Online
pub mod Whole
pub mod Longer
pub mod Decisions
pub mod Condition3Runs
