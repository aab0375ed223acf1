-- Laws of the place.
pub mod Laws
