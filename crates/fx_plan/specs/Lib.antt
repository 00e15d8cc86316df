pub mod Conditions
pub mod Explained
pub mod Laws
pub mod Places
pub mod Plans
