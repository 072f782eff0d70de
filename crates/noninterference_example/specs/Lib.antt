-- parts of a model file
pub mod FileBytes
-- two files in which an invariant of each kind fails
pub mod EachKind
-- two files with an unknown reason, a restart, a wait and toggles
pub mod Stale
