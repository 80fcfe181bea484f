pub mod Fields
pub mod Unpacked
