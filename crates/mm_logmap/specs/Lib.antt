pub mod Batches
pub mod Log
pub mod Inside
pub mod Examples
pub mod Facts
