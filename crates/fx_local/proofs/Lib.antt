pub mod CountLemmas
pub mod GainLemmas
pub mod GraphTextLemmas
pub mod LoadLemmas
pub mod LocalLemmas
pub mod ServiceLemmas
pub mod ServingLemmas
pub mod LocalReportLemmas
