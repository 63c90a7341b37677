-- What the proofs of the functions share, and what the layers above cite of the float leaves.
pub mod Laws
