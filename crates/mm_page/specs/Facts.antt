-- What follows from the definitions, for the proofs of the crates above.
pub mod Sizes
pub mod Shelves
pub mod Heading
