pub mod Rate
pub mod Block
pub mod Answer
pub mod Fade
pub mod Sum
pub mod Noise
