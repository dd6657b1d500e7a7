-- What follows from the definitions, for the proofs of the crates above.
pub mod Fronts
pub mod Order
pub mod Members
pub mod Ordered
pub mod Lists
pub mod Children
pub mod Tests
pub mod Parents
pub mod Levels
pub mod Places
