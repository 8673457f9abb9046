pub mod Components
pub mod Trimming
