pub mod Difference
pub mod Plans
pub mod Blame
pub mod Carrying
pub mod Laws
pub mod Inside
pub mod Examples
