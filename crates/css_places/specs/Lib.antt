pub mod Lines
pub mod Parts
pub mod Walks
pub mod Schemes
pub mod Resolving
pub mod Rebasing
