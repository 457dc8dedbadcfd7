pub mod ApartLemmas
pub mod BeforeLemmas
