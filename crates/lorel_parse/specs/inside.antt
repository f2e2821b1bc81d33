-- The reference parser of statements: plain functions on lists of kinds, which the program's parser is
-- proved to compute. No public clause speaks of it.
pub mod Targets
pub mod Statements
