pub mod Shapes
pub mod TestPlaces
pub mod ImportPlaces
pub mod ImportsStand
pub mod FunctionLemmas
pub mod Computing
