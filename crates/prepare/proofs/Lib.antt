pub mod Examples
pub mod Find
pub mod Rises
pub mod Mapped
pub mod Ports
pub mod Graph
pub mod Theorems
