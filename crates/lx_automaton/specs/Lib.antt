pub mod Automata
pub mod Classing
pub mod EncodedOptions
pub mod Equivalence
pub mod Leading
pub mod Lists
pub mod Meaning
pub mod Numbered
