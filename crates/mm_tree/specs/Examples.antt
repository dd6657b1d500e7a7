-- Worked values, which the checker computed.
pub mod Bibliography
pub mod EditExamples
pub mod FragmentRows
