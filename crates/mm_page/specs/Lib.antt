pub mod Limits
pub mod Leaf
pub mod Rules
pub mod Header
pub mod Paging
pub mod Slots
pub mod Inside
pub mod Facts
