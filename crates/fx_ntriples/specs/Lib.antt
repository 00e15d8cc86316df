pub mod Answers
pub mod Forms
pub mod Loose
pub mod Places
pub mod Printing
pub mod Quotes
pub mod Reading
pub mod Refusals
