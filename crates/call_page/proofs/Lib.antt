mod Digits
mod Lines
mod Puts
