pub mod Faults
pub mod Texts
pub mod Written
