pub mod InstanceOfTable
pub mod RunOfTable
pub mod InitialTable
pub mod Once
pub mod NoneSent
