pub mod Contents
pub mod Layout
pub mod WellFormed
pub mod Fields
pub mod Exactness
pub mod Example
