pub mod Numbers
pub mod Copied
pub mod Entitling
pub mod Signed
pub mod Recorded
