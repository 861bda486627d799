pub mod AllLemmas
pub mod CallerLemmas
pub mod Costs
pub mod RequestLemmas
pub mod StepLemmas
pub mod ValueLemmas
