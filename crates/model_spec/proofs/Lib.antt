-- where a text stands among others
pub mod Places
-- what the reader found before windows and the start, it finds now
pub mod Old
-- sizes of words
pub mod Events
-- and so old files are read, accepted and refused as before
pub mod OldFiles
