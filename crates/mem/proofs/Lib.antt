pub mod Bytes
pub mod ContextNumbers
pub mod Spelling
pub mod Parts
pub mod Numbers
pub mod Writing
pub mod StoredPointers
pub mod Loading
pub mod InARow
pub mod Kept
pub mod FirstCell
pub mod KnownCells
pub mod LittleWrites
pub mod Alike
mod WindowLemmas
