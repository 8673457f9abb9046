pub mod Grammar
pub mod Signs
pub mod Faults
pub mod Private
