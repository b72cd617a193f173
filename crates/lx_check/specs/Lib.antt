pub mod Findings
pub mod Further
pub mod Verdicts
pub mod Without
