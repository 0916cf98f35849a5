-- What is shown of the order of the steps: the main theorems of this crate. Assumes nothing.
use mathlib.Core.Path.{◌≡◌}
use mathlib.Core.List.{map}
use Prim.Native.Nat.{ℕ, suc, ◌≤◌}
use lib.ListN.{get_or}
use Rattle.definition.specs.Words.{Word}
use Rattle.definition.specs.Kind.{DEFINED, kind}
use Rattle.definition.specs.Stem.{stem, applied}
use Rattle.order.specs.Order.{Place, nowhere, place_number, pair, unexchanged, stem_by}
use Rattle.order.specs.Settled.{Unshown, AllHold, settled, entries, neighbours, places, pair_of}
use Rattle.order.specs.Defined.{Article, AllApplied}
use Rattle.order.proofs.Same.{same}
use Rattle.order.proofs.Places.{places-all, settled-all}
use Rattle.order.proofs.Beyond.{no_other}
use Rattle.order.proofs.Settled.{settled_hold}
use Rattle.order.proofs.Defined.{defined-fronts}

-- with nothing exchanged, the stem is the definition's
pub main_same : (w : Word) → stem_by unexchanged w ≡ stem w
main_same = same

-- of each two neighbouring steps, exchanged: a word's stem changes, or no word's
pub main_order : AllHold settled
main_order = settled_hold

-- the table has every pair of neighbours, counted from the lists that are run, and no other
pub main_pairs : map pair_of settled ≡ neighbours places
main_pairs = settled-all

-- no place is missing there: each stands in the list of places at its number
pub main_places : (p : Place) → get_or places (place_number p) nowhere ≡ p
main_places = places-all

-- no pair is missing there: past those that are counted, nothing is exchanged
pub main_no_other : (p : Place) (i : ℕ) → entries p ≤ suc i → Unshown (pair p i)
main_no_other = no_other

-- of the fronts, a defined word meets Step3a_Noun alone
pub main_defined : (w : Word) → kind w ≡ DEFINED → AllApplied Article (applied w)
main_defined = defined-fronts
