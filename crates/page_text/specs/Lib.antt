pub mod Lines
pub mod Sizes
pub mod Page
pub mod Laws
