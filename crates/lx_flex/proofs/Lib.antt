pub mod Advancing
pub mod JoinedLists
mod Joining
pub mod Lines
pub mod Listing
pub mod Nesting
pub mod OpenScopes
pub mod Progress
pub mod TextForms
mod TextLengths
