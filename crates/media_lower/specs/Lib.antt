pub mod MediaItems
pub mod MediaKeeps
pub mod Samples
