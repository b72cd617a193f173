pub mod ActionsRead
pub mod NameFaults
pub mod Numbers
pub mod OneAutomaton
pub mod Reading
pub mod StateSteps
pub mod Texts
