pub mod CommandLine
pub mod Limits
pub mod Tables
