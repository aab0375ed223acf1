-- What the call for the table of reach promises.
pub mod Tables
