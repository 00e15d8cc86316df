pub mod AloneLemmas
pub mod LicenceLemmas
pub mod RequestLemmas
pub mod StepLemmas
pub mod ToldLemmas
