-- What the calls within this crate know.
pub mod Reading
pub mod Numbers
