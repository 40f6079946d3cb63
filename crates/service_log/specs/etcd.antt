pub mod Answers
pub mod Faults
pub mod Found
pub mod Keys
pub mod Lasts
pub mod Requests
