mod Chosen
mod EmptyLemmas
mod FilledLemmas
mod Packed
mod Passes
mod Steps
