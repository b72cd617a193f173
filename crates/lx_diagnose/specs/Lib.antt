pub mod Causes
pub mod CodeWords
pub mod Places
pub mod Printed
