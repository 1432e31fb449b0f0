pub mod CauseRuns
pub mod AsPrinted
pub mod Bouncing
pub mod Standing
pub mod Rigs
