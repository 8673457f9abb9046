pub mod MediaCases
pub mod OldLists
pub mod Computing
pub mod LeavesKept
pub mod ItemsPrintable
pub mod PlainTaken
