-- what is written of a record is read back
pub mod Texts
pub mod PlainLines
pub mod Numbers
pub mod Words
pub mod Canonical
pub mod Replies
