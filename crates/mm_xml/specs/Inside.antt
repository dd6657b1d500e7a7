-- What the contracts of private functions cite: lexemes, the stack and the outline, and what is still to be written. A user need not read it.
pub mod Lexing
pub mod Telling
pub mod Declaring
pub mod Machine
pub mod Prefix
pub mod Numbers
pub mod Outlines
pub mod Lexemes
pub mod Builds
pub mod Pending
pub mod Distinct
pub mod Passages
