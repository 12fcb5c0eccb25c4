pub mod Table
pub mod Results
pub mod Windows
pub mod Reads
