pub mod RowTest
pub mod Table
