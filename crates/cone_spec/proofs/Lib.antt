-- what lint and the cone don't read
pub mod AnyStart
