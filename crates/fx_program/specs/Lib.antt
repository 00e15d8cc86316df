pub mod Completeness
pub mod Given
pub mod Headline
pub mod Runs
