-- What follows from the definitions, for the proofs of this crate and of those above.
pub mod Sorting
pub mod Keys
pub mod Blocked
pub mod Spots
pub mod Changing
pub mod Olds
pub mod InRange
