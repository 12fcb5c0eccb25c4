pub mod OpenLemmas
pub mod LeftLaws
pub mod MendLemmas
pub mod ColumnLemmas
pub mod ComingLemmas
