-- Definitions that the contracts of `measures` cite.
pub mod Kit
pub mod Meant
