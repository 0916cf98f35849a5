-- Proofs about the calls of the steps.
mod Left
