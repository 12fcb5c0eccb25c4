pub mod AccountLaws
pub mod CallLemmas
pub mod ChainLemmas
pub mod FoldLaws
pub mod ShortLaws
pub mod ShortLemmas
mod TreeLemmas
mod StoryLemmas
mod SignedAccountLaws
pub mod SignedShortLaws
