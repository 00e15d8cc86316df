pub mod Exchanges
pub mod Honest
pub mod Scripts
pub mod TcpWires
