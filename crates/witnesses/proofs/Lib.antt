pub mod CauseRuns
pub mod Printed
pub mod Bouncing
pub mod Standing
pub mod Rigs
