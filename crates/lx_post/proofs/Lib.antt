pub mod Comings
pub mod DrawSteps
pub mod NoteLists
pub mod NothingLost
pub mod PostSteps
pub mod Received
pub mod Sendings
pub mod ViewSums
