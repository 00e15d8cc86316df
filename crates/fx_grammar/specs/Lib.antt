pub mod Accepted
pub mod Classified
pub mod Grammar
pub mod Keywords
pub mod Kinds
pub mod Refused
pub mod Rule
