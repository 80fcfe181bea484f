pub mod Orders
pub mod Signs
pub mod Tens
