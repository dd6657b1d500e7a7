-- What the calls within this crate know.
pub mod Finding
pub mod Olds
