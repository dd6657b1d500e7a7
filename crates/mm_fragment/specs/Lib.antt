pub mod Matching
pub mod Bound
pub mod Showing
pub mod Telling
pub mod Stored
pub mod Inside
