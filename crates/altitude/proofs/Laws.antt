-- Laws of the definitions of specs/. Cases, Feed and Within are those of the crates below.
pub use Rattle.math.proofs.Laws.Cases
pub use Rattle.math.proofs.Laws.Feed
pub use Rattle.controllers.proofs.Laws.Within
pub mod NotFinite
pub mod Integral
pub mod Thrust
pub mod Worked
