pub mod Configs
pub mod HallLaws
pub mod Histories
pub mod RaisingLemmas
pub mod ReadingLemmas
pub mod Serves
