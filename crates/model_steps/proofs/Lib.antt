mod Common
pub mod cited
