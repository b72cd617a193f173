pub mod LineNumbers
pub mod LineSteps
pub mod Texts
