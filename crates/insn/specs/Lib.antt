pub mod Insn
pub mod Program
pub mod Layout
