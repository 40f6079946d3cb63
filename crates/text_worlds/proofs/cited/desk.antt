pub mod NamedAmong
