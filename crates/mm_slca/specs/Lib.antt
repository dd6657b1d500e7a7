pub mod Bound
pub mod Inside
