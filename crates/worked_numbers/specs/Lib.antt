pub mod Example
pub mod Cases
pub mod Measures
