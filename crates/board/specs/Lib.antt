pub mod Queues
pub mod Called
pub mod Made
pub mod Closing
pub mod Reached
