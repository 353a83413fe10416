pub mod Quoting
pub mod OwnQuote
pub mod QuoteCall
pub mod QuoteCases
pub mod OwnCases
pub mod QuotesApart
