pub mod Results
pub mod Members
pub mod SourceFormat
pub mod ChainFormat
pub mod Chains
