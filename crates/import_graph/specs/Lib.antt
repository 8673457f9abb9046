pub mod Asking
pub mod Files
pub mod Growing
pub mod Order
pub mod Places
pub mod Samples
pub mod Waves
