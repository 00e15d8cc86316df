pub mod ToldLemmas
pub mod ConnectionLemmas
pub mod ServingLemmas
pub mod StepLemmas
pub mod RegistryLemmas
