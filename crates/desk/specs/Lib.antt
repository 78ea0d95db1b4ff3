pub mod Desks
pub mod Responses
