-- Definitions that no public contract cites.
pub mod Origins
pub mod Written
pub mod PathNodes
pub mod GuideSets
