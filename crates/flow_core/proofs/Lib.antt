pub mod RingLemmas
pub mod SoundLemmas
pub mod EmissionLemmas
pub mod CallLemmas
pub mod StateLemmas
pub mod DrainSteps
pub mod TakingLemmas
