pub mod Operations
pub mod Record
pub mod Demand1
