pub mod Changed
pub mod Runs
