pub mod Histories
pub mod Asking
pub mod Serving
pub mod Keeping
pub mod RowLemmas
