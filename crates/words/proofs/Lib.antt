pub mod DecimalWords
pub mod HexWords
pub mod Joins
pub mod RowWords
