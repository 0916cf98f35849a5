-- Request A8: the noun's Step1a cuts in no word, and the definition without it is equal in stem, kind and chain. Assumes nothing.
use mathlib.Core.Path.{◌≡◌}
use mathlib.Core.List.{[], map}
use lib.ListN.{length}
use Rattle.definition.specs.Words.{Word}
use Rattle.definition.specs.Tries.{done, after}
use Rattle.definition.specs.Kind.{Kind, OPEN, kind}
use Rattle.definition.specs.Normal.{normalise}
use Rattle.definition.specs.Endings.{Cut, Cutting, uncut, verb}
use Rattle.definition.specs.Stem.{stem, chain}
use Rattle.old_noun.specs.OldNoun.{A_10, as_old, OldCutting, old_uncut, onto, cut_step1a, old_endings, old_stem, old_kind, old_chain}
use Rattle.old_noun.specs.Facts.{not_step1a, AllSteps, without_verb, long_enough, too_short, around}
use Rattle.old_noun.proofs.Equal.{equal, as_old_one, reason, no_step1a}
use Rattle.old_noun.proofs.Verbless.{verbless_right}

-- for every word both definitions have the same stem, the same kind and the same chain, cut by cut
pub main_equal : (w : Word) → (old_stem w ≡ stem w) × (old_kind w ≡ kind w) × (old_chain w ≡ map as_old (chain w))
main_equal = equal

-- cuts that are the same among the old ones have the same step and the same row
pub main_cuts : (c d : Cut) → as_old c ≡ as_old d → c ≡ d
main_cuts = as_old_one

-- the reason: in an open word that Step1a would cut the verb has succeeded before, and its cuts are all that is cut
pub main_reason : (w : Word) → kind w ≡ OPEN → (x : OldCutting) → cut_step1a (old_uncut (normalise w)) ≡ done x
    → (v : Cutting) × (verb (uncut (normalise w)) ≡ done v) × (old_endings (kind w) (normalise w) ≡ done (onto [] v))
main_reason = reason

-- so Step1a cuts in no word
pub main_step1a : (k : Kind) (n : Word) → AllSteps not_step1a (after (old_endings k n)).cuts
main_step1a = no_step1a

-- the table has ten rows, and it is the verb that keeps them from cutting: with a verb that always fails each is cut as soon as its guard is met
pub main_verbless : (length A_10 ≡ 10) × (map without_verb long_enough ≡ long_enough) × (map without_verb too_short ≡ too_short) × (map without_verb around ≡ around)
main_verbless = verbless_right
