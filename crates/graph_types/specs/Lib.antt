pub mod Unfolding
pub mod Whole
pub mod Samples
