pub mod ResultLine
