pub mod FollowingLemmas
pub mod OpLemmas
pub mod RangeLemmas
pub mod SumLemmas
