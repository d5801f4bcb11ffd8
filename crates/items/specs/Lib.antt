pub mod Frames
pub mod Nodes
