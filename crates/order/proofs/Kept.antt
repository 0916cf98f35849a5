-- The pairs that no word shows: the stem is the same with them exchanged. Assumes nothing.
use mathlib.Core.Path.{◌≡◌, refl, ap, ◌∙◌}
use Rattle.definition.specs.Words.{Word}
use Rattle.definition.specs.Tries.{Try, after}
use Rattle.definition.specs.Kind.{Kind, kind}
use Rattle.definition.specs.Normal.{normalise}
use Rattle.definition.specs.Endings.{Cutting}
use Rattle.definition.specs.Fronts.{Fronting, text, started}
use Rattle.order.specs.Order.{Pair, pair, verbs, verb_sequel, nouns, step1b_sequel, thirds, unexchanged, ordered, verb_by, noun_by, endings_by, prefix_steps_by, finish_by, stem_by}
use Rattle.order.specs.Settled.{Unshown}
use Rattle.order.proofs.Endings.{verbs_0, verb_sequel_0, nouns_1, nouns_2, step1b_sequel_0}
use Rattle.order.proofs.Fronts.{thirds_0, thirds_1}
use Rattle.order.proofs.Same.{same}

-- the stem of a word whose endings leave n
abbrev from_endings : Word → Word → Word
from_endings w n = finish_by unexchanged (text (after (prefix_steps_by unexchanged (kind w) (started n))))

pub by_endings : (x : Pair) → ((k : Kind) (n : Word) → endings_by x k n ≡ endings_by unexchanged k n)
    → ((w : Word) → stem_by x w ≡ from_endings w (after (endings_by x (kind w) (normalise w))).text) → Unshown x
unfolding stem_by ordered
by_endings x e s w = s w ∙ ap (λ (t : Try Cutting). from_endings w (after t).text) (e (kind w) (normalise w)) ∙ same w

pub by_fronts : (x : Pair) → ((k : Kind) (n : Word) → text (after (prefix_steps_by x k (started n))) ≡ text (after (prefix_steps_by unexchanged k (started n))))
    → ((w : Word) → stem_by x w ≡ finish_by unexchanged (text (after (prefix_steps_by x (kind w) (started (after (endings_by unexchanged (kind w) (normalise w))).text))))) → Unshown x
unfolding stem_by ordered
by_fronts x e s w = s w ∙ ap (finish_by unexchanged) (e (kind w) (after (endings_by unexchanged (kind w) (normalise w))).text) ∙ same w

pub verbs_0_kept : Unshown (pair verbs 0)
unfolding stem_by ordered prefix_steps_by finish_by
verbs_0_kept = by_endings (pair verbs 0) verbs_0 (λ w. refl)

pub verb_sequel_0_kept : Unshown (pair verb_sequel 0)
unfolding stem_by ordered prefix_steps_by finish_by
verb_sequel_0_kept = by_endings (pair verb_sequel 0) verb_sequel_0 (λ w. refl)

pub nouns_1_kept : Unshown (pair nouns 1)
unfolding stem_by ordered prefix_steps_by finish_by
nouns_1_kept = by_endings (pair nouns 1) nouns_1 (λ w. refl)

pub nouns_2_kept : Unshown (pair nouns 2)
unfolding stem_by ordered prefix_steps_by finish_by
nouns_2_kept = by_endings (pair nouns 2) nouns_2 (λ w. refl)

pub step1b_sequel_0_kept : Unshown (pair step1b_sequel 0)
unfolding stem_by ordered prefix_steps_by finish_by
step1b_sequel_0_kept = by_endings (pair step1b_sequel 0) step1b_sequel_0 (λ w. refl)

pub thirds_0_kept : Unshown (pair thirds 0)
unfolding stem_by ordered endings_by verb_by noun_by finish_by
thirds_0_kept = by_fronts (pair thirds 0) (λ k n. ap (λ (t : Try Fronting). text (after t)) (thirds_0 k n)) (λ w. refl)

pub thirds_1_kept : Unshown (pair thirds 1)
unfolding stem_by ordered endings_by verb_by noun_by finish_by
thirds_1_kept = by_fronts (pair thirds 1) thirds_1 (λ w. refl)
