pub mod Imports
pub mod BareRules
pub mod Samples
