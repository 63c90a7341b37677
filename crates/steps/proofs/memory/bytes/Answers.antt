-- `steps::memory::bytes` meets its contract: what a configured craft's words are cut to is all of them. Assumes nothing.
use Rattle.std.proofs.Common.{◌∙◌}
use Rattle.steps.proofs.Whole.{none_lost}
use Rattle.steps.proofs.memory.bytes.Goals as goal

pub returns-clause-whole : goal.returns-clause-whole
returns-clause-whole c guidance configured =
    rw c.craft_words.ensures at c.padded.ensures ∙ none_lost c.args.craft guidance c.args.flags configured
