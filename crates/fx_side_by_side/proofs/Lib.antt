pub mod ShareLemmas
pub mod GainedLemmas
pub mod RunsLemmas
pub mod StepLemmas
pub mod WalkLemmas
