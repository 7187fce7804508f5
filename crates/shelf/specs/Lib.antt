pub mod Held
pub mod Runs
