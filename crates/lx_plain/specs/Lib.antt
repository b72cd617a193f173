pub mod Longest
pub mod Places
