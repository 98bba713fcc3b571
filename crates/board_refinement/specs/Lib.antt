pub mod Forms
pub mod Contract
pub mod Refines
