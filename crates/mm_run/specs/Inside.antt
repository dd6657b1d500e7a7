-- What private contracts and proofs speak of.
pub mod Turning
pub mod Telling
pub mod Step
pub mod Input
pub mod Buffer
pub mod Carrying
pub mod Edits
