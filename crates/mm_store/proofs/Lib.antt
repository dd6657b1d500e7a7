pub mod Found
pub mod Shown
pub mod Naming
pub mod Told
pub mod Edited
pub mod Applied
pub mod Checked
