pub mod Lines
pub mod FileTexts
