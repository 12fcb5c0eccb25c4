pub mod Numbers
pub mod NumberSets
pub mod Contains
pub mod Windows
pub mod Limits
pub mod Table
