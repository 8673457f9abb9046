pub mod Found
pub mod MediaFeatures
pub mod SupportsFunctions
pub mod Constructs
pub mod Firsts
pub mod Limits
