mod Nan
mod Quotient
mod Pack
mod Grid
mod Fields
mod Narrowing
mod Squares
mod Turns
mod Rooting
mod Signs
pub mod NearestRoot
pub mod NearestEven
mod Examples
