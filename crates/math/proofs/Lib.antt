-- What the layers above cite of the helpers of math.rs.
pub mod Laws
