pub mod GraphWires
pub mod FaultWires
pub mod Served
