pub mod Cutting
pub mod Gathered
pub mod Getting
pub mod Placing
pub mod Rebuilding
pub mod Running
