pub mod Drawing
pub mod Listing
pub mod Program
