-- What the C boundary promises.
pub mod Boundary
