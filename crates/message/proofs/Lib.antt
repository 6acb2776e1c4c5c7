pub mod Slices
pub mod Inside
pub mod Forward
pub mod Parts
