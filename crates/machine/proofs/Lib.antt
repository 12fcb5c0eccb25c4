pub mod TurnLemmas
pub mod AdvanceLemmas
pub mod PairLemmas
pub mod RegisterLemmas
pub mod OperationLemmas
pub mod Alike
