mod Halving
mod Begins
mod Written
mod Fitting
mod Shaped
mod Tabled
mod Opened
mod Answered
mod Tiles
pub mod Placing
mod Spotting
mod Numbering
mod Fields
mod Measured
mod Letters
