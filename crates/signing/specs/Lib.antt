pub mod Fields
pub mod Times
pub mod Places
pub mod Copies
pub mod Signers
pub mod Computed
