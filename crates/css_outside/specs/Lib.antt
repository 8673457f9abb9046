pub mod Names
pub mod Counts
pub mod Reading
pub mod Putting
pub mod Rooms
pub mod Spaces
pub mod Calls
