pub mod Queues
pub mod Called
