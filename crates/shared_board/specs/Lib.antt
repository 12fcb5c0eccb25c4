pub mod History
pub mod Witnessed
