pub mod HexText
pub mod Letters
