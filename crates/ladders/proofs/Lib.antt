pub mod Checked
pub mod Nearest
