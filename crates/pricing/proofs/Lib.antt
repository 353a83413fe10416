pub mod Rounding
pub mod UniformQuotes
pub mod Lines
pub mod PricedLines
pub mod Largest
pub mod PriceCases
