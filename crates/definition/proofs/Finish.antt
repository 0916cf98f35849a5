-- Item 5 letter by letter: the last letter changes as a last letter, any other as another. Assumes nothing.
use mathlib.Core.Path.{◌≡◌, refl, ap, ◌∙◌}
use mathlib.Core.List.{[], ◌∷◌, ◌++◌, map}
use Prim.Native.Nat.{ℕ}
use lib.Dec.{leb}
use Rattle.definition.specs.Letters.{alef_madda, yeh_hamza}
use Rattle.definition.specs.Words.{Word, both}
use Rattle.definition.specs.Finish.{last, other, finish}
use Rattle.definition.proofs.Match.{by}
use Rattle.definition.proofs.Stays.{outside, other-stays}

-- the second half leaves what the first has put
pub other_last : (c : ℕ) → other (last c) ≡ last c
unfolding last other
other_last c = by (both (leb alef_madda c) (leb c yeh_hamza)) (λ t. rw t refl) (λ t. rw t (other-stays c (outside c t)))

pub finish-one : (c : ℕ) → finish (c ∷ []) ≡ last c ∷ []
unfolding finish
finish-one c = ap (λ (x : ℕ). x ∷ []) (other_last c)

pub finish-more : (c d : ℕ) (w : Word) → finish (c ∷ d ∷ w) ≡ other c ∷ finish (d ∷ w)
unfolding finish
finish-more c d w = refl

-- of two words joined each letter of the first changes as another
pub finish-joined : (u : Word) (c : ℕ) (v : Word) → finish (u ++ (c ∷ v)) ≡ map other u ++ finish (c ∷ v)
finish-joined [] c v = refl
finish-joined (a ∷ []) c v = finish-more a c v
finish-joined (a ∷ b ∷ u) c v = finish-more a b (u ++ (c ∷ v)) ∙ ap (λ (x : Word). other a ∷ x) (finish-joined (b ∷ u) c v)

pub finish-all : (w : Word) (c : ℕ) → finish (w ++ (c ∷ [])) ≡ map other w ++ (last c ∷ [])
finish-all w c = finish-joined w c [] ∙ ap (λ (x : Word). map other w ++ x) (finish-one c)
