-- Laws of lists made by index, of words put in place of others, and of zeros.
pub mod Many
pub mod Splice
pub mod Tab
pub mod Zeros
