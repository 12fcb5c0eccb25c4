pub mod Chains
pub mod Tests
pub mod Answered
pub mod Accepts
pub mod Traps
