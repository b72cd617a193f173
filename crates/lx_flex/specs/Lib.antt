pub mod Activity
pub mod ConditionLists
pub mod Faults
pub mod Imported
pub mod Lengths
pub mod RulesSections
pub mod States
pub mod views
