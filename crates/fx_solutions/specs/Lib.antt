pub mod Joins
pub mod Ranks
pub mod Selected
pub mod Tables
