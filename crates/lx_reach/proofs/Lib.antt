pub mod ByRules
pub mod Entering
pub mod Meeting
pub mod Pairing
pub mod Parting
pub mod Reaching
pub mod Taking
pub mod Unchosen
