pub mod Gives
pub mod Prefixes
