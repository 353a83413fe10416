pub mod Digit
pub mod Capitals
pub mod Line
pub mod HexText
pub mod Split
pub mod TextOf
pub mod ByteCases
