-- The theorems over the definitions that the contracts cite, as types: what makes an answer right, what is claimed of picks, of whole runs and of the tables
-- of reach, and what the way there speaks of. `proofs/` has the proof of each claim.
pub mod Correct
pub mod Claim2
pub mod Claim3
pub mod Decisions
pub mod Condition3
pub mod Faithful
pub mod Facts
pub mod Ladders
pub mod Invariants
pub mod Course
pub mod Held
