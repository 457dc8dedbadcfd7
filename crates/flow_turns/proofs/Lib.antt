pub mod StepLemmas
pub mod OverCoresLemmas
pub mod RunLemmas
pub mod ReadLemmas
pub mod PassingLemmas
