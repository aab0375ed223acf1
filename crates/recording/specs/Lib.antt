-- Recording files: what a file says, what the calls answer and leave, and a grammar of the files.
pub mod Format
pub mod Answers
pub mod Gives
pub mod Grammar
