pub mod Arguments
pub mod Callers
pub mod Counting
pub mod CrowdLines
pub mod CrowdSizes
pub mod Crowds
pub mod Numbers
pub mod Program
