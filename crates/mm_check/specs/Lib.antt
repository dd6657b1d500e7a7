pub mod Reading
pub mod Blame
pub mod Laws
pub mod Verdicts
pub mod Inside
pub mod Examples
