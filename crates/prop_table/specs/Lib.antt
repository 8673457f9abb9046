pub mod OldPseudos
pub mod LogicalProperties
pub mod OldFeatures
pub mod PhysicalProperties
pub mod Private
pub mod Samples
