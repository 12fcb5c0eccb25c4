pub mod Outsets
