-- What holds where no cause refuses, and the walk held at k, pick after pick.
pub mod Verdicts
pub mod Held
