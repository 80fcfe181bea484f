pub mod Feed
pub mod Ends
pub mod Wrote
pub mod Session
