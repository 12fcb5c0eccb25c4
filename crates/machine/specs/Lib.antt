pub mod Standing
pub mod Turn
pub mod Advance
pub mod Registers
pub mod Asking
pub mod Pausing
