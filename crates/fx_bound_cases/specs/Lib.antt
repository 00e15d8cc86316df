pub mod LoneRuns
