pub mod Numbers
pub mod Meanings
