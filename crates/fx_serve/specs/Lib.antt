pub mod Connections
pub mod Laws
pub mod Serving
pub mod Steps
