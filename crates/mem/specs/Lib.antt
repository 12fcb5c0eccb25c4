pub mod ContextLayout
pub mod Answers
pub mod Places
pub mod Reading
pub mod Rows
pub mod Layout
