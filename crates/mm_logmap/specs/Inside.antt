-- What proofs need besides the definitions.
pub mod Spelled
pub mod Sound
