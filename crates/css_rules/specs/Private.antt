-- What the clauses of private functions alone cite: how the work is done, step by step. A reader need not believe it.
pub mod Marks
pub mod Waiting
pub mod Faults
pub mod Starts
pub mod Spans
pub mod Roles
pub mod Adding
