pub mod Building
pub mod Reading
pub mod Values
