-- what is computed of a file, and what the theorem says of two
pub mod Premises
-- two files in which an invariant of each kind fails
pub mod EachKind
-- two files with an unknown reason, a restart, a wait and toggles
pub mod Stale
