pub mod Sets
pub mod Cutting
pub mod Occurrences
pub mod QueryFacts
