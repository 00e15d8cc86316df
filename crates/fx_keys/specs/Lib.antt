pub mod Keys
pub mod Probes
