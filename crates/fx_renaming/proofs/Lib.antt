pub mod BranchLemmas
pub mod MeasureLemmas
pub mod WordLemmas
