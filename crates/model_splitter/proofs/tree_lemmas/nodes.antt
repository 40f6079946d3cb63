-- walks from node to node, and the nodes that they made
pub mod Numbers
pub mod Kept
pub mod VisitsKept
pub mod AgreeKept
pub mod DepthBound
