pub mod TableLaws
pub mod Overwriting
pub mod Keeping
pub mod HoldingBits
pub mod Masks
pub mod Members
pub mod Whole
pub mod StackRows
