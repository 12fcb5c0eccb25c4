pub mod CutTexts
pub mod EscapeLaws
pub mod ReadLemmas
pub mod WriteLemmas
