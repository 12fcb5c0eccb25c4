pub mod Spelling
pub mod Form
pub mod Reading
pub mod Program
pub mod Laws
pub mod Opcodes
pub mod ErrorText
