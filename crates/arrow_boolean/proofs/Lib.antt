mod TruthLemmas
