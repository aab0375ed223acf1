-- The meaning: what a reader must believe. Laws about it stand in proofs/.
pub mod Recording
pub mod Journey
pub mod Count
pub mod Measures
pub mod Length
pub mod Refusals
pub mod Causes
