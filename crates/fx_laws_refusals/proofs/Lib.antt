pub mod CauseLemmas
pub mod NeedLemmas
pub mod KeptLemmas
pub mod RoundLemmas
pub mod BadReplyLemmas
pub mod LongLemmas
