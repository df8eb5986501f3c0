pub mod Clocks
pub mod PlayFaults
pub mod Run
