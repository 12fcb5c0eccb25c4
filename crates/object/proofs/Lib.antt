pub mod FirstLemmas
pub mod NumberLemmas
pub mod EntryLemmas
pub mod RowLemmas
pub mod NameLemmas
pub mod TextLemmas
