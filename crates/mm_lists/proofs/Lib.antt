pub mod Shorter
pub mod Lookups
pub mod Refusing
pub mod Kids
