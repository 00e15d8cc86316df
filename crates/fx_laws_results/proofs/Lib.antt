pub mod PartLemmas
pub mod TermLemmas
pub mod RowLemmas
pub mod ToldLemmas
