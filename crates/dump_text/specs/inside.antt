-- Definitions that no public contract cites: the rules of dump texts in the parts in which they are tested.
pub mod RuleParts
pub mod Noted
