mod Common
mod ChecksumLemmas
mod CommandCases
mod Cut
mod JsonLemmas
mod PairLemmas
mod Pieces
mod QuickReplies
mod ReportedWords
mod SealLemmas
mod Values
mod WordLemmas
pub mod cited
pub mod written
