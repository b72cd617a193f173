pub mod Chosen
pub mod Contexts
pub mod Entered
pub mod Reached
pub mod Taken
pub mod Takers
pub mod Untaken
