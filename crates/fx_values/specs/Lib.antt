pub mod Values
pub mod Reading
pub mod Texts
pub mod Parts
pub mod Sent
pub mod Answers
pub mod Examples
