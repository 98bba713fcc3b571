pub mod Queues
pub mod Walked
pub mod Calls
pub mod Seals
pub mod Begun
