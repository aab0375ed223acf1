-- THE WALK: definitions that the contracts of `steps` and `calls` cite and the theorems of `law` speak of; what its steps require, and read.
pub mod Walk
pub mod Fit
pub mod Alike
pub mod Bare
pub mod Modes
pub mod Makes
