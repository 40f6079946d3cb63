pub mod ConsistentKept
pub mod GridLaw
pub mod GridTied
pub mod Numbers
