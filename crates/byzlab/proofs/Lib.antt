pub mod BesideLemmas
pub mod KeptLemmas
pub mod SeenLemmas
pub mod UnaskedLemmas
pub mod NewFileLemmas
