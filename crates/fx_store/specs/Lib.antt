pub mod Examples
pub mod Lookups
pub mod Orders
pub mod Ranks
pub mod Stores
