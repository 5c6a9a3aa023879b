pub mod MachineSpec
pub mod After
pub mod TallyState
pub mod Tally
pub mod Entries
