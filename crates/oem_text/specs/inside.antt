-- Definitions that no public contract cites: what the program's lists stand for while a literal is laid out, and where the
-- objects are that locals mark.
pub mod Views
pub mod Places
