pub mod RunRounds
pub mod CountsBySets
pub mod MessagesBySender
pub mod SpeakerBound
pub mod IdleLines
pub mod Pairing
pub mod FirstSettling
pub mod TrueReasons
