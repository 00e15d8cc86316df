pub mod Printable
pub mod Runs
pub mod Units
