pub mod Families
pub mod Steps
pub mod Rows
pub mod Codes
pub mod RowRules
pub mod Chosen
pub mod Editions
