-- What private contracts and proofs speak of.
pub mod Ways
pub mod Searching
pub mod Found
pub mod Spreads
pub mod Fragmenting
