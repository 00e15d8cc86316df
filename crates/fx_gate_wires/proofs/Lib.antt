pub mod TripleLemmas
pub mod ToldLemmas
pub mod GateLemmas
pub mod OwnLemmas
