-- What the calls within this crate know.
pub mod Own
pub mod Finding
