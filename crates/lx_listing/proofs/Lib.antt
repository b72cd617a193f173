mod HandedOn
pub mod Appending
pub mod FileLines
pub mod Parting
pub mod Stepping
pub mod Streaming
pub mod Turning
pub mod WholeLines
