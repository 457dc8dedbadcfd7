-- Cold chains: what they mean, and what they give. Begin with `Chain`.
pub mod ChainRun
pub mod OperatorRuns
pub mod Chain
