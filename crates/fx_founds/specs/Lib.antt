pub mod FoundOrder
pub mod Unions
pub mod Uniting
