pub mod ChildLemmas
pub mod Gathered
pub mod PlaceLemmas
mod NextPlaces
pub mod FactLemmas
pub mod ShownLemmas
pub mod RowLemmas
pub mod LegendLemmas
pub mod SvgLaws
pub mod FoldLaws
