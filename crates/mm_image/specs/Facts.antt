-- What follows from the definitions, for the proofs of the crates above.
pub mod Keys
pub mod Members
pub mod Upto
pub mod Finding
pub mod LabelOrder
pub mod Grounds
pub mod Naming
pub mod Pieces
pub mod Standing
pub mod KeyOrder
pub mod Words
pub mod Rising
pub mod Results
