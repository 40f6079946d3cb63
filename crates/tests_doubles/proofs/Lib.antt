mod Asked
mod Wrapped
