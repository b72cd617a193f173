pub mod Behind
pub mod ShortNumbers
pub mod Prefixed
pub mod Lined
pub mod Places
pub mod Unescaped
pub mod Triples
