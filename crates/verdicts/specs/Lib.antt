-- Definitions that the contracts of `verdicts` cite, and what holds where the checks find no cause.
pub mod Verdicts
pub mod Fit
