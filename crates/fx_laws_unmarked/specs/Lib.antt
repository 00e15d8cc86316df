pub mod Causes
pub mod Federated
pub mod Unmarked
