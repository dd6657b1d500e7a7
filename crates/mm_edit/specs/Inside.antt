-- What proofs alone need.
pub mod Finding
pub mod Swapping
pub mod Nodes
pub mod Counting
pub mod Placing
pub mod Sites
pub mod Changes
