pub mod Lines
pub mod Registries
