pub mod Causes
pub mod Moves
pub mod Memory
pub mod Moments
pub mod Disk
pub mod MemoryDisk
pub mod Inside
pub mod Facts
