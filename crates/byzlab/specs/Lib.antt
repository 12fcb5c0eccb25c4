pub mod Beside
pub mod Failures
pub mod Files
pub mod Kept
pub mod NewFiles
pub mod Overwriting
pub mod Rejected
pub mod Turns
