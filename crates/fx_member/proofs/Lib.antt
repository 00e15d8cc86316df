pub mod AnswerLemmas
pub mod HonestLemmas
