pub mod Records
pub mod Settled
pub mod Inside
pub mod Facts
pub mod Examples
