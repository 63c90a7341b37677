-- What is shown of the definitions, for the layers above. Assumes nothing.
pub mod Laws
