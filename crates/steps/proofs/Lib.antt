-- What the steps of the walk keep. A caller of `step` needs `Ready` alone, and `Fit` for kits.
pub mod Fit
pub mod Grown
pub mod Enough
pub mod Rises
pub mod Closes
pub mod Frames
pub mod Ready
pub mod Alike
pub mod Ladders
pub mod Bare
pub mod Makes
