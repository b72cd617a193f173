pub mod Graph
pub mod Labels
