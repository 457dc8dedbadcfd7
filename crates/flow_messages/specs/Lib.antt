pub mod Apart
pub mod Before
