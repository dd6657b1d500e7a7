pub mod Smallest
pub mod Walking
pub mod Cost
