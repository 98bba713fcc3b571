mod Flags
mod Passes
