pub mod Kept
pub mod Matches
pub mod RuleSet
