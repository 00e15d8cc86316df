pub mod AlikeLemmas
pub mod CountLemmas
pub mod PieceLemmas
