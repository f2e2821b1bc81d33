-- Definitions that no public contract cites.
pub use Rattle.doem_facts.specs.FactLaws
pub mod Kept
pub mod Chains
pub mod Marks
pub mod Leads
