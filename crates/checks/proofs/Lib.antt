-- The table rule of constants, and what the checks say.
pub mod Table
pub mod Clean
pub mod Masks
pub mod AllOpen
pub mod Lent
pub mod United
