pub mod Bytes
pub mod Lines
pub mod Said
pub mod Sarif
