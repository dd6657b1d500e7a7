mod Blocks
mod Order
mod Reading
pub mod Rows
mod Writing
mod Moves
mod Setting
mod Splitting
mod Linking
mod SlotFacts
mod Finding
pub mod Valid
