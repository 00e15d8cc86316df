pub mod SideBySide
pub mod Steps
