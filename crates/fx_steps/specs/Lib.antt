pub mod Steps
pub mod Groups
pub mod Fewer
pub mod Optionals
