pub mod RunLemmas
pub mod JoinLemmas
pub mod KeyLemmas
pub mod LeftJoinLemmas
pub mod RankLemmas
pub mod SeenLemmas
pub mod AnswerLemmas
