pub mod ProductsLemmas
pub mod ReadingsLemmas
