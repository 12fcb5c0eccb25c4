mod Rows
pub mod RunLaws
pub mod Walk
pub mod StepLaws
pub mod AskingExample
pub mod SoundExample
pub mod WholeLaws
pub mod SafetyLaws
pub mod WordLaws
pub mod HoldingLaws
pub mod ReachedLaws
pub mod PlacesLaws
pub mod EntriesLaws
