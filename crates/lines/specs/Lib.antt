pub mod Fields
pub mod Faults
pub mod Places
pub mod Reading
pub mod Values
pub mod Names
pub mod Spelled
