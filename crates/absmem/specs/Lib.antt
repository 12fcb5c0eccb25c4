pub mod Known
pub mod Tables
pub mod Stacks
pub mod Holding
pub mod Members
pub mod Laws
pub mod Describes
