-- What the proofs of the functions share. Assumes nothing.
pub mod Laws
