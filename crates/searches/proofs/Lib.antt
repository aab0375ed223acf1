-- Laws of the searches.
pub mod Full
pub mod Search
