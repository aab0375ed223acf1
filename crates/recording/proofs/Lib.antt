-- The laws of the reader, what later work builds on, and the lemmas of the proofs.
pub mod Laws
pub mod Causes
pub mod Examples
pub mod Written
pub mod Bits
pub mod Sound
pub mod Turn
pub mod State
pub mod Grammar
