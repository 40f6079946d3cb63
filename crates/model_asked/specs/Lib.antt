pub mod Ranges
pub mod Config
pub mod Replies
pub mod Bad
pub mod Requests
pub mod rounds
pub mod lemmas
