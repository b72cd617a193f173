pub mod Adding
pub mod Asked
pub mod Globals
pub mod NumbersRead
pub mod PlainNames
pub mod PlainOrders
pub mod PlainWords
