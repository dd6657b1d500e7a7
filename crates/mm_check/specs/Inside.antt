-- What the calls within this crate know.
pub mod Chunks
pub mod Path
pub mod Reader
pub mod Sizes
pub mod Stopping
