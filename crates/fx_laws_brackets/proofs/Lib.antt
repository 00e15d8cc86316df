pub mod BracketLemmas
