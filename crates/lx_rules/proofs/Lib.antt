pub mod Activity
pub mod Numbering
