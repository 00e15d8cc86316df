pub mod Addresses
pub mod Lines
pub mod Patterns
pub mod Probes
pub mod Registries
pub mod Sources
