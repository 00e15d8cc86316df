pub mod SentLemmas
pub mod GainLemmas
pub mod CutLemmas
pub mod TextLemmas
pub mod NumberLemmas
pub mod PlannedLemmas
pub mod FewerLemmas
