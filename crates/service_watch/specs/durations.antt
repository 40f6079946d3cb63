pub mod Histogram
