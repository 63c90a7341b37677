-- A link of a feed is what the contract of `records::step::record` promises, and no more: `link_of_contract` makes one from the claim that Rattle generates
-- of the contract for callers, and `link_of_clause` from the contract's own clause, an assertion of the logic, in every model. So calls one after the other,
-- each with the craft that the one before gave back, are a feed. `definition_fed`: every list of entries has links. Assumes nothing.
use mathlib.Core.Path.{refl}
use mathlib.Core.List.{List, [], ◌∷◌}
use base.Logic.{ent}
use contract.Lifetimes.{Lfts}
use contract.Monad.{fact, fact_mono}
use borrow.Fn.Kinds.{Dens, res_t, ended_of}
use borrow.Fn.World.{World}
use denote.Triple.Clauses.{AtExit}
use Rattle.records.specs.declared.craft.Craft.{Craft}
use Rattle.records.specs.Step.{Outcome}
use Rattle.records.specs.Feed.{Entry, outcome, Link, Fed}
use Rattle.records.proofs.step.record.Kinds as kinds
use Rattle.records.proofs.step.record.Reads as reads

-- ---- a call of the record operation: its arguments, what it gives back, and the arguments at its exit

module _ (κs : Lfts 2) where
  abbrev pub Arguments : Type 0
  Arguments = Dens κs kinds.ps

  abbrev pub Result : Type 0
  Result = (res_t kinds.r κs).Denot

  abbrev pub AtEnd : Type 0
  AtEnd = AtExit (ended_of 2 kinds.ps kinds.r) κs

  -- the bytes and the buffer handed in
  abbrev pub entry_of : Arguments → Entry
  entry_of args = record { bytes = args.1.0.now; buffer = args.1.1.0.now }

  -- what was given back, and the buffer at the exit
  abbrev pub link_of : Result → AtEnd → Link
  link_of handled exit = record { handled = handled; left = exit.1.1.0.now }

  module _ (args : Arguments) (handled : Result) (exit : AtEnd) (entries : List Entry) (links : List Link)
      (rest : Fed handled.craft entries links) where
    pub link_of_contract : reads.Learnt κs args handled exit → Fed args.0 (entry_of args ∷ entries) (link_of handled exit ∷ links)
    unfolding Fed
    link_of_contract promised = (promised, rest)

    pub link_of_clause : (w : World)
        → ent w.𝓤 (reads.ensures κs args tt handled exit w) (fact w.𝓤 (Fed args.0 (entry_of args ∷ entries) (link_of handled exit ∷ links)))
    link_of_clause w = fact_mono w.𝓤 (reads.Learnt κs args handled exit) _ link_of_contract

  pub single_link_of_contract : (args : Arguments) (handled : Result) (exit : AtEnd) → reads.Learnt κs args handled exit
      → Fed args.0 (entry_of args ∷ []) (link_of handled exit ∷ [])
  single_link_of_contract args handled exit promised = link_of_contract args handled exit [] [] (unfold Fed in tt) promised

-- ---- every list has links: those that the definition gives

abbrev pub definition_link : Outcome → Link
definition_link o =
    record {
      handled = record { craft = o.craft; answer = o.answer; taken = o.taken; written = o.written };
      left = o.buffer;
    }

unfoldable pub definition_links : Craft → List Entry → List Link
definition_links craft [] = []
definition_links craft (entry ∷ entries) = definition_link (outcome craft entry) ∷ definition_links (outcome craft entry).craft entries

pub definition_fed : (craft : Craft) (entries : List Entry) → Fed craft entries (definition_links craft entries)
unfolding Fed definition_links
definition_fed craft [] = tt
definition_fed craft (entry ∷ entries) = (refl, definition_fed (outcome craft entry).craft entries)
