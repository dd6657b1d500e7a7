-- What the calls within this crate know.
pub mod Children
pub mod Gathering
pub mod Keeping
pub mod Marked
pub mod Piling
pub mod Owning
pub mod Stored
