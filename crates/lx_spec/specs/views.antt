-- The values of the code as contracts see them, without their places in memory.
pub mod Actions
pub mod DefinitionFaults
pub mod Dictionaries
pub mod Fields
pub mod Lines
pub mod Pieces
pub mod Places
pub mod ResolvedRules
pub mod RuleLines
pub mod Sections
pub mod Steps
pub mod SymbolTables
pub mod Trees
pub mod Turns
pub mod Words
