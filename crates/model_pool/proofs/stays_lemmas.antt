pub mod GraceLemmas
