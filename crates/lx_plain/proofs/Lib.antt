pub mod Best
pub mod NameLemmas
pub mod PlaceLemmas
pub mod SetLemmas
pub mod Viewed
pub mod Weights
