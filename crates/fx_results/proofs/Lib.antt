pub mod BackLemmas
pub mod ColumnLemmas
pub mod DataLemmas
pub mod KnownLemmas
pub mod ReadingLemmas
pub mod Rows
pub mod TextLemmas
pub mod TokenLemmas
