pub mod Name
pub mod Refusal
pub mod Node
pub mod Silence
