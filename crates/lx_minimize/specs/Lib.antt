pub mod BlockBounds
pub mod Completion
pub mod Partitions
pub mod Quotients
pub mod Simulations
pub mod Sources
pub mod SplitMeasure
