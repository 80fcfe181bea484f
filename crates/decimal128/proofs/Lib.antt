pub mod Frames
pub mod Answers
pub mod Tight
pub mod Demands
