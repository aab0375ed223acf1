-- What a part stores, parts lent and copied, and what the parts hold after one is written.
pub mod Stored
pub mod Cut
pub mod Lent
pub mod Laws
