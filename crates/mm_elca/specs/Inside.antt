-- What the calls within this crate know.
pub mod Children
pub mod Clear
pub mod Stack
pub mod Gathering
