pub mod Records
pub mod NoiseWord
