pub mod Parts
pub mod Telling
pub mod Texts
