pub mod Holder
pub mod Ledger
pub mod Clear
pub mod Render
pub mod Call
pub mod Claim
