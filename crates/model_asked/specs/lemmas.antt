pub mod ConfigProofs
pub mod KindProofs
