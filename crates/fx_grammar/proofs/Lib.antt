pub mod GrammarLaws
pub mod KindLaws
pub mod OneQuery
pub mod RuleLaws
