pub mod Types
pub mod MachineWords
pub mod inside
