pub mod ValueLemmas
pub mod FilterLemmas
pub mod PlanLemmas
pub mod StepLemmas
pub mod GroupLemmas
pub mod FewerLemmas
pub mod OptionalLemmas
