pub mod Order
pub mod ByteLaws
pub mod Readback
pub mod HeldFacts
pub mod Pushing
pub mod BetweenFacts
pub mod Texts
pub mod Shared
