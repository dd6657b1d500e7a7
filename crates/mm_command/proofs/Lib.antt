pub mod Spaces
pub mod FragmentFacts
