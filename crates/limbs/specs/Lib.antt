pub mod Value
pub mod Powers
pub mod Count
pub mod Wide
