mod CutRules
pub mod GivenListed
pub mod Helped
pub mod NameBytes
pub mod NameListLemmas
pub mod NamesRefused
pub mod Obeyed
pub mod Planned
pub mod ReadOn
pub mod Reporting
pub mod SourceLemmas
pub mod StreamedFiles
pub mod Tabled
