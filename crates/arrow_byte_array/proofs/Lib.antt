mod ValidationLemmas
mod AgainLemmas
mod GrowthLemmas
