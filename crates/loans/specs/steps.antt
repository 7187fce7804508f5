-- What private functions do, step by step. No public promise rests on it.
pub mod Finding
pub mod Holding
pub mod Tallies
pub mod Taking
pub mod Sifting
pub mod Writing
