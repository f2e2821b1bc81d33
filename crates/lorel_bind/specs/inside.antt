-- Definitions that no public contract cites: what is noted to tell causes, the slots of the program, and how conditions are
-- bound.
pub mod Causes
pub mod Slots
pub mod Binders
