pub mod Escapes
pub mod Filling
pub mod Laws
pub mod Names
pub mod Reading
pub mod Writing
