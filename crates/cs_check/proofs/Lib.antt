mod Samples
pub mod FaultLists
pub mod SchemaFaults
mod SchemaSamples
