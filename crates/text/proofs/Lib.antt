pub mod Texts
pub mod Hex
pub mod Decimals
pub mod Laws
pub mod Examples
