-- Items 3 to 5 read the normalised word and the kind alone. Assumes nothing.
use mathlib.Core.Path.{◌≡◌, refl, sym, ◌∙◌}
use mathlib.Core.List.{reverse}
use lib.ListN.{length, drop}
use Rattle.definition.specs.Words.{Word}
use Rattle.definition.specs.Kind.{kind}
use Rattle.definition.specs.Normal.{normalise}
use Rattle.definition.specs.Endings.{joined}
use Rattle.definition.specs.Stem.{cutting, fronting, stem_of, stem, cuts, chain, back, applied, front, head_letter, without, run}
use Rattle.definition.specs.Depends.{SameWay}

pub stem_of_lem : (w : Word) → stem w ≡ stem_of (kind w) (normalise w)
unfolding stem stem_of fronting
stem_of_lem w = refl

pub same_way : (u w : Word) → normalise u ≡ normalise w → kind u ≡ kind w → SameWay u w
unfolding chain back applied front head_letter run cuts
same_way u w p q = record {
  stems = stem_of_lem u ∙ (λ i. stem_of (q i) (p i)) ∙ sym (stem_of_lem w);
  chains = λ i. reverse (cutting (q i) (p i)).cuts;
  backs = λ i. joined (cutting (q i) (p i)).cuts;
  steps = λ i. (fronting (q i) (p i)).applied;
  fronts = λ i. (fronting (q i) (p i)).front;
  heads = λ i. (fronting (q i) (p i)).head_letter;
  runs = λ i. drop (length (fronting (q i) (p i)).front) (without (p i) (cutting (q i) (p i)).cuts);
}
