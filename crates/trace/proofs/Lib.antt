pub mod EntryLemmas
pub mod WrittenLemmas
pub mod Repeating
pub mod LineLemmas
pub mod RoundLemmas
pub mod ChainLemmas
pub mod SignedLines
pub mod DecisionLemmas
pub mod Splitting
pub mod PartingLemmas
pub mod MarkLemmas
pub mod PassingLemmas
pub mod Plain
pub mod Naming
pub mod Generals
pub mod Sound
pub mod ShapeLemmas
pub mod Differences
pub mod AuditLemmas
pub mod SignedAudits
pub mod SignedNaming
pub mod SignedSound
mod Printed
mod TwoGenerals
mod TraitorLieutenant
mod TraitorCommander
mod ThreeGenerals
mod EachAccess
mod HonestToOne
mod TwoTraitors
mod Absent
mod SevenGenerals
mod CutOff
mod Medians
mod ScheduleTexts
mod SignedRows
