pub mod Refusal
pub mod Seal
pub mod Board
pub mod Opens
pub mod Sealed
pub mod Claim
