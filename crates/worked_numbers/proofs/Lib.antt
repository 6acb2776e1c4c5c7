pub mod Images
pub mod Shown
pub mod Worked
pub mod Measures
