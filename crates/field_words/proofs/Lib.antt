pub mod Written
pub mod Rectangles
pub mod Mapped
