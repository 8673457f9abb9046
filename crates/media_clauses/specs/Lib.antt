pub mod Clauses
pub mod Lowered
pub mod Holding
pub mod KnownRanges
pub mod ClauseTexts
pub mod Counts
pub mod Samples
