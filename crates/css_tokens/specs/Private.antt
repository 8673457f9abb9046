-- What the clauses of private functions alone cite: how the work is done, step by step. A reader need not believe it.
pub mod ComponentReading
pub mod Contents
pub mod Keywords
pub mod Machine
pub mod NamePlaces
pub mod Nests
pub mod Pendings
pub mod Reading
pub mod Runs
