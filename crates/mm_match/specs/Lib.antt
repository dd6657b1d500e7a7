pub mod Marks
pub mod Contributors
pub mod Rows
pub mod Inside
