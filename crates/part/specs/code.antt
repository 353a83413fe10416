pub mod RoundFits
