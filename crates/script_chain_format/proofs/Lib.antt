pub mod ListLemmas
pub mod ResultLemmas
pub mod ChainLemmas
