pub mod FaultLemmas
pub mod QueryLemmas
pub mod ExplainLemmas
pub mod CountingLemmas
pub mod MembersLemmas
pub mod GeneratorLemmas
