pub mod Loops
pub mod PrefixLaws
