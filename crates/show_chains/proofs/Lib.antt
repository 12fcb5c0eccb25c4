pub mod StrokeLemmas
pub mod OwedLemmas
pub mod PictureLemmas
pub mod PictureLaws
pub mod LoyalLaws
pub mod OnceLemmas
pub mod RowLaws
