pub mod ReadBack
pub mod LentLemmas
pub mod EmitOnce
