pub mod Calls
pub mod Evaluation
pub mod Majorities
pub mod Laws
