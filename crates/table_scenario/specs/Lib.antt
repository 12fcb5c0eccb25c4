pub mod Programs
pub mod Scenarios
