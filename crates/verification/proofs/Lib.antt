pub mod Reading
pub mod Opened
pub mod Signer
pub mod Judged
pub mod Rules
pub mod Passes
pub mod Demand
