pub mod Entries
pub mod Blocks
pub mod Places
pub mod Keeping
pub mod Failing
pub mod Lending
pub mod Inside
pub mod Facts
