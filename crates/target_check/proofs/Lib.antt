pub mod Built
pub mod Parts
pub mod Computing
pub mod Places
