pub mod Decimals
pub mod Escapes
pub mod Fields
pub mod Prefixes
pub mod Lines
pub mod Placed
pub mod Styles
pub mod StyleLaws
