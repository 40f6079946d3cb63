pub mod NumberProofs
pub mod PieceProofs
pub mod ReplyProofs
pub mod SpelledProofs
pub mod WrittenProofs
