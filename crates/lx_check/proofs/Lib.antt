pub mod Flags
pub mod Furthering
