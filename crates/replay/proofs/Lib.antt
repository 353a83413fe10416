pub mod LeadsOn
pub mod RanIn
