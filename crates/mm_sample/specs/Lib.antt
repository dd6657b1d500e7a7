pub mod Counts
pub mod Draws
pub mod Examples
pub mod Script
pub mod Summary
