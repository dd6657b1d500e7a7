-- What private contracts and proofs speak of.
pub mod Showing
