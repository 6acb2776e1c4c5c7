pub mod Kept
pub mod Acts
pub mod Pages
