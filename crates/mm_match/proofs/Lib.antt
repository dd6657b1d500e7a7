pub mod Ties
pub mod ParentFacts
pub mod Thinning
pub mod PathFacts
pub mod Listing
pub mod Siblings
pub mod Contributing
