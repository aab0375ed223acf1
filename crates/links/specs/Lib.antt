-- Definitions that the contracts of `links` cite.
pub mod Tables
pub mod Picks
pub mod Lent
pub mod Composed
pub mod Tells
