pub mod DigitLemmas
pub mod Equations
pub mod LoopLemmas
pub mod NumberLemmas
pub mod WordLemmas
