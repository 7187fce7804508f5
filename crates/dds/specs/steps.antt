-- What private functions do, step by step. No public promise rests on it.
pub mod Spots
