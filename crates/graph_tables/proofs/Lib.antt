pub mod Backwards
pub mod Brief
pub mod Edges
pub mod FedPorts
pub mod Marks
pub mod Room
pub mod Lowest
