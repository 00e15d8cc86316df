pub mod Told
pub mod Gates
pub mod Laws
