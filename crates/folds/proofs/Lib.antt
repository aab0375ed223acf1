-- Laws of the better time and of folds.
pub mod Better
pub mod Gathered
