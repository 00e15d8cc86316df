pub mod AskLemmas
pub mod EntryLemmas
pub mod KeyLemmas
mod PartLemmas
mod LineLemmas
mod RegistryLemmas
pub mod SourceLemmas
pub mod KeptLemmas
