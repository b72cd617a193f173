-- The values of the code as contracts see them, without their places in memory.
pub mod Conditions
pub mod NameTables
pub mod Rules
pub mod Specs
