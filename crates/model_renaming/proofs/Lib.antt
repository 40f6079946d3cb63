mod Alone
mod AloneRuns
mod Clocked
mod Common
mod FreshWorlds
mod Large
mod LocalSteps
mod Names
mod Ruled
mod ShortReplies
pub mod cited
pub mod over_lemmas
mod rounds
