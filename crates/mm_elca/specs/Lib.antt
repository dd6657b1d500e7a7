pub mod Bound
pub mod Owning
pub mod Inside
