pub mod RuleKept
pub mod RuleLaws
pub mod RuleLocal
pub mod RuleStops
pub mod RuleWhole
