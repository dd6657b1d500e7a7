pub mod Answers
pub mod Applying
pub mod Editing
pub mod Shown
pub mod Inside
