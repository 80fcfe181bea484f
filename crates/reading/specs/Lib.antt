pub mod Scan
pub mod Run
pub mod Told
pub mod Parted
pub mod Split
