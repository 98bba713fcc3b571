pub mod Examples
pub mod Laws
pub mod Serve
pub mod Cycle
pub mod Invariant
pub mod Counts
pub mod Names
pub mod Theorems
