pub mod Found
pub mod Joining
pub mod Most
pub mod RuleLaws
pub mod SortedMiddle
pub mod Voting
