-- What follows from the definitions, for the proofs of the crates above.
pub mod Moments
pub mod Replay
pub mod Torn
pub mod Faults
