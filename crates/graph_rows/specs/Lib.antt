pub mod Node
pub mod Edge
