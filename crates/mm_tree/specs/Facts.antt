-- What follows from the definitions, for the proofs of the crates above.
pub mod Formed
pub mod Places
pub mod Subforests
pub mod Nodes
pub mod Runs
pub mod Rebuild
pub mod Full
pub mod Walks
pub mod Labels
pub mod Words
pub mod Numbers
pub mod Refusals
pub mod Found
