pub mod FoundLemmas
pub mod UnionLemmas
pub mod UniteLemmas
pub mod RowLemmas
