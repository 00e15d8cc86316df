pub mod Asking
pub mod Counting
pub mod Explain
pub mod FedRefusals
pub mod Generator
pub mod GeneratorSteps
pub mod MemberSteps
pub mod Query
