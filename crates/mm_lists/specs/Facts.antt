-- What follows from the definitions, for the proofs of the crates above.
pub mod Formed
pub mod Below
pub mod Listed
pub mod Nearest
pub mod Candidates
pub mod Deepest
pub mod Keeping
pub mod Walking
pub mod Shortest
