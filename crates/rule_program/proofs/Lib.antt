pub mod CallLemmas
pub mod RunLemmas
pub mod BinaryLemmas
pub mod MajorityLemmas
pub mod RuleLaws
