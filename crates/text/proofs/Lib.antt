pub mod PartsLemmas
pub mod DigitLemmas
pub mod BytesLemmas
pub mod CutLemmas
pub mod DecimalLemmas
pub mod WorthLaws
