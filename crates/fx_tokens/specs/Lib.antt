pub mod Answers
pub mod Classes
pub mod Decoding
pub mod Forms
pub mod Kinds
pub mod Reads
pub mod Scan
