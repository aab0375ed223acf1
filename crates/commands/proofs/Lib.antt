-- What later work builds on, and the lemmas of the proofs.
pub mod Inverse
pub mod Table
pub mod Admit
pub mod Fitted
