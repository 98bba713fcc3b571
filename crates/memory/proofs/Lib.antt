pub mod Contracts
pub mod Run
