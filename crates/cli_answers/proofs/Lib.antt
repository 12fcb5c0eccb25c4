mod CleanLemmas
mod ItemLemmas
mod LabelLemmas
mod ValueLemmas
mod WhyLemmas
pub mod ShownLemmas
