pub mod Printed
pub mod Seconds
pub mod Pages
pub mod LineCounts
pub mod Laws
pub mod Examples
