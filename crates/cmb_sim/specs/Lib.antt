-- what the public contracts rest on
pub mod Simulation
pub mod Activities
pub mod Expecting
pub mod Tasks
-- what the functions inside the crate promise each other
pub mod Inner
-- what the public contracts rest on in crates below
pub use Rattle.cmb_faults.specs.Numbers
pub use Rattle.cmb_inputs.specs.Checking
pub use Rattle.cmb_inputs.specs.Chosen
pub use Rattle.cmb_inputs.specs.Expected
pub use Rattle.cmb_inputs.specs.Inputs
pub use Rattle.cmb_inputs.specs.Outputs
pub use Rattle.cmb_inputs.specs.Spelling
pub use Rattle.cmb_io.specs.Ends
pub use Rattle.cmb_io.specs.Sources
pub use Rattle.cmb_run_scopes.specs.Scopes
