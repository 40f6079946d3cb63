mod Common
mod Tallies
mod Keeping
mod Closing
mod Crowding
mod Lining
mod LineClosing
