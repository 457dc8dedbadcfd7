pub mod DrawingLemmas
pub mod ListingLemmas
pub mod SplitLemmas
