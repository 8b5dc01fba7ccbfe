-- The definitions that the clauses of files name.
pub mod Sinks
