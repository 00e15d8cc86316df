pub mod Reading
pub mod Batches
pub mod Texts
pub mod Examples
pub mod Parts
pub mod Sent
pub mod Answers
pub mod Made
