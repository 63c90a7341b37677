-- `buffers::Buffer::padded` meets its contract. Assumes nothing.
use Rattle.std.proofs.Common.{refl}
use Rattle.std.proofs.lemmas.List.{drop-replicate}
use Rattle.buffers.proofs.Buffer.padded.Goals as goal

pub returns : goal.returns
returns g c = rw (c.put_front.ensures, c.held.ensures.bytes, drop-replicate _ _ _) refl
