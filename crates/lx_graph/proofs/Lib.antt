pub mod NoneOf
pub mod Texts
