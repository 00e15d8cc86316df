pub mod ReportLemmas
pub mod HeadlineLemmas
pub mod KeptLemmas
pub mod DownLemmas
pub mod LastRoundLemmas
pub mod HarmlessLemmas
pub mod CompletenessLemmas
pub mod UsedLemmas
