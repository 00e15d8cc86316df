pub mod Answers
pub mod Columns
pub mod Documents
pub mod KnownAnswers
pub mod Meanings
pub mod Reading
pub mod Tokens
