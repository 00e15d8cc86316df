pub mod ElementLemmas
pub mod StepLemmas
pub mod OptionalLemmas
