pub mod Lines
pub mod RecordWords
