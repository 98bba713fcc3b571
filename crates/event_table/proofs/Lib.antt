pub mod Records
pub mod Room
pub mod Scheduling
pub mod Named
pub mod Keys
