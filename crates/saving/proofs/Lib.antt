-- The laws of saving, and the lemmas of the proofs.
pub mod Laws
pub mod Causes
pub mod Order
pub mod Trip
pub mod Partway
pub mod Follows
pub mod Acts
pub mod Lends
pub mod Size
pub mod Most
pub mod Put
pub mod Rest
