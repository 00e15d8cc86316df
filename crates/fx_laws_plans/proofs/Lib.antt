pub mod EachLemmas
pub mod PositionLemmas
pub mod OrderLemmas
pub mod FilterLemmas
pub mod FreeLemmas
pub mod RuleLemmas
pub mod OnlyLemmas
