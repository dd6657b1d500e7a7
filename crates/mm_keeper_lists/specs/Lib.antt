pub mod Ranges
pub mod Found
pub mod Inside
pub mod Facts
