-- Laws of the meaning. No code: `model` declares types alone.
pub mod Logic
pub mod Bits
pub mod Count
pub mod Ones
pub mod Links
pub mod Trips
pub mod Hops
pub mod Windows
pub mod Lengths
pub mod Monotone
pub mod Shifted
pub mod Refusals
pub mod Causes
