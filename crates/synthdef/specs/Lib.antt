pub mod Rows
pub mod Tables
pub mod Edges
pub mod Params
pub mod Limits
pub mod Silent
pub mod Plan
pub mod Instance
