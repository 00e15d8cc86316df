pub mod AskedLemmas
pub mod PlanLemmas
pub mod BatchLemmas
pub mod FederatedLemmas
pub mod UnmarkedLemmas
