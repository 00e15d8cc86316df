pub mod GroupRows
pub mod Conditions
pub mod Known
pub mod Runs
pub mod Optionals
pub mod FirstRows
pub mod FirstHere
