pub mod Stories
pub mod Tightness
pub mod Tolerance
pub mod Denial
pub mod Division
pub mod TwoOrders
pub mod Refutation
pub mod StoryTrees
