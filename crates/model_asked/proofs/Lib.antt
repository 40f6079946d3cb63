pub mod cited
pub mod rounds_lemmas
