mod AskedLemmas
mod CallLemmas
mod Collecting
mod Common
mod Dues
mod FewValues
mod Going
mod Histories
mod LawfulPlaces
mod OwnAccesses
mod Reading
mod ScanAlone
mod Shown
mod SightingLemmas
mod Tied
mod WayLemmas
mod WorldCommon
pub mod cited
