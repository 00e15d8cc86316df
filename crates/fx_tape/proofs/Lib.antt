pub mod ClearPieces
pub mod ExchangeLemmas
pub mod Fronts
pub mod NumberLemmas
pub mod NumberTurns
pub mod PieceLemmas
pub mod SpellingLemmas
pub mod TapeLemmas
