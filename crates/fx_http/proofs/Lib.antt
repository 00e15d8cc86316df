mod FieldLemmas
mod NumberLemmas
mod ChunkSteps
mod FormLemmas
mod HeadSteps
mod ReadingLemmas
pub mod ReplyLaws
pub mod RequestLaws
pub mod ReadRequestLaws
pub mod WrittenReplyLaws
