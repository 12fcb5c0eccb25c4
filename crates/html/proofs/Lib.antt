pub mod EscapeLaws
pub mod TagLaws
pub mod TextLemmas
mod EncodedLaws
pub mod NumberLemmas
mod VisibleLaws
pub mod PageLaws
pub mod PlainLemmas
pub mod SectionLaws
