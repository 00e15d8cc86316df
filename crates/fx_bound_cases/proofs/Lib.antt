pub mod LoneRunLemmas
