pub mod ByState
pub mod QuoteCases
pub mod OwnCases
pub mod QuotesApart
