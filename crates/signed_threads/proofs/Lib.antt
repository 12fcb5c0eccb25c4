pub mod Briefings
pub mod Concluded
pub mod Outsets
