pub mod Asked
pub mod Questions
pub mod Rounds
pub mod RowsAsked
pub mod Together
pub mod Walks
