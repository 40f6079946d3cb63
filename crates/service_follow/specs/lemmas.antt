pub mod SaidProofs
