pub mod Cells
pub mod LawfulTable
