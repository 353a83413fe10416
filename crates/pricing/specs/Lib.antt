pub mod Price
pub mod Rounding
pub mod Quote
pub mod PricedLines
pub mod UniformQuotes
pub mod Largest
pub mod PriceCases
