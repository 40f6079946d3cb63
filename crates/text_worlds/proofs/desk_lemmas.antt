pub mod NamedAlone
