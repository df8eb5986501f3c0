pub mod Calls
pub mod Faults
pub mod Wave
pub mod Waveform
