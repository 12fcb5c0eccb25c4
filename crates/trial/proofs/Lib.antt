pub mod Entering
mod Examples
pub mod Histories
pub mod Items
pub mod Rows
pub mod Serving
pub mod Trying
pub mod Owning
pub mod StepLemmas
pub mod ExitLemmas
pub mod TraceLaws
pub mod SlipLemmas
pub mod ReasonLaws
pub mod RowReasons
