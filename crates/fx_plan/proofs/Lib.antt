pub mod NameLemmas
pub mod ConditionLemmas
pub mod ExplainLemmas
pub mod LawLemmas
pub mod OrderLemmas
pub mod PlaceLemmas
pub mod ShareLemmas
