-- Saving: the file of a recording, what the call answers and leaves, and when it is refused.
pub mod File
pub mod Puts
pub mod Changes
pub mod Answers
pub mod May
pub mod Order
