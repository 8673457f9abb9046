pub mod MediaTargets
pub mod Targets
pub mod Samples
