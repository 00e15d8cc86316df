pub mod Equations
pub mod LogicLemmas
pub mod WorthLemmas
pub mod CompareLemmas
pub mod NumberLemmas
pub mod FunctionLemmas
pub mod LiteralLemmas
