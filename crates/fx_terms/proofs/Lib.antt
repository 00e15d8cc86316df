pub mod OrderLemmas
pub mod SetLemmas
pub mod TagLemmas
pub mod IriLemmas
pub mod WriteSteps
pub mod Utf8Shapes
pub mod Utf8Stops
