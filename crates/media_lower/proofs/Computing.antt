-- How items and conditions that are written out compute.
pub use Rattle.media_clauses.proofs.Computing.{computing as media_computing}
pub use Rattle.sheet_types.proofs.Computing.{computing as item_computing}

pub ruleset computing = (media_computing, item_computing)
