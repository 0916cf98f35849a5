-- An old step agrees with one of the definition: from the same letters and cuts it comes to the same letters and cuts. Assumes nothing.
use mathlib.Core.Path.{◌≡◌, refl, ap, ◌∙◌}
use mathlib.Core.Bool.{Bool, true, false}
use mathlib.Core.List.{List, [], ◌∷◌, ◌++◌, map}
use mathlib.Core.Option.{Option, none, some}
use Prim.Native.Nat.{ℕ}
use lib.ListN.{length}
use Rattle.definition.specs.Letters.{alef_maksura}
use Rattle.definition.specs.Words.{Word, pick, ends_with}
use Rattle.definition.specs.Search.{taken}
use Rattle.definition.specs.Tries.{Step, Try, done, failed, nothing, and_then, if_failed, ◌then_try◌, first_of}
use Rattle.definition.specs.Kind.{Kind, OPEN, DEFINED, if_open}
use Rattle.definition.specs.Endings.{SuffixStep, suffix, Cutting, uncut, cut_off, cut_by, cut, suffix_all_alef_maqsura, maqsura}
use Rattle.old_noun.specs.OldNoun.{as_old, OldCutting, onto, try_onto, keeping}

abbrev pub Agree : Step OldCutting → Step Cutting → Type 0
Agree f g = (v : Cutting) → f (onto [] v) ≡ try_onto [] (g v)

-- ---- single steps
pub agree_cut : (s : SuffixStep) → Agree (keeping (cut s)) (cut s)
unfolding cut cut_off
agree_cut s v = go (taken (ends_with v.text) (suffix s) (length v.text))
  where
    go : (o : Option ℕ) → try_onto (map as_old v.cuts ++ []) (cut_by s (uncut v.text) o) ≡ try_onto [] (cut_by s v o)
    go none = refl
    go (some r) = refl

pub agree_maqsura : Agree (keeping maqsura) maqsura
agree_maqsura v = go (ends_with v.text (alef_maksura ∷ []))
  where
    w : Word
    w = suffix_all_alef_maqsura v.text

    go : (b : Bool) → try_onto (map as_old v.cuts ++ []) (pick b (done (uncut w)) (failed (uncut v.text)))
        ≡ try_onto [] (pick b (done (record { text = w; cuts = v.cuts })) (failed v))
    go true = refl
    go false = refl

pub agree_nothing : Agree nothing nothing
agree_nothing v = refl

-- ---- steps put together
module _ (f : Step OldCutting) (g : Step Cutting) (h : Agree f g) where
  pub then_agrees : (t : Try Cutting) → and_then (try_onto [] t) f ≡ try_onto [] (and_then t g)
  then_agrees (done v) = h v
  then_agrees (failed v) = refl

  pub or_agrees : (t : Try Cutting) → if_failed (try_onto [] t) f ≡ try_onto [] (if_failed t g)
  or_agrees (done v) = refl
  or_agrees (failed v) = h v

  pub agree_if : (k : Kind) → Agree (if_open k f) (if_open k g)
  agree_if OPEN v = h v
  agree_if DEFINED v = refl

pub agree_then : (f : Step OldCutting) (g : Step Cutting) → Agree f g → (f' : Step OldCutting) (g' : Step Cutting) → Agree f' g' → Agree (f then_try f') (g then_try g')
unfolding ◌then_try◌
agree_then f g h f' g' h' v = ap (λ (t : Try OldCutting). and_then t f') (h v) ∙ then_agrees f' g' h' (g v)

abbrev pub AllAgree : List (Step OldCutting) → List (Step Cutting) → Type 0
AllAgree [] [] = Unit {0}
AllAgree [] (g ∷ gs) = ⊥
AllAgree (f ∷ fs) [] = ⊥
AllAgree (f ∷ fs) (g ∷ gs) = Agree f g × AllAgree fs gs

pub agree_first : (fs : List (Step OldCutting)) (gs : List (Step Cutting)) → AllAgree fs gs → Agree (first_of fs) (first_of gs)
unfolding first_of
agree_first [] [] h v = refl
agree_first [] (g ∷ gs) h v = absurd h
agree_first (f ∷ fs) [] h v = absurd h
agree_first (f ∷ fs) (g ∷ gs) h v =
    ap (λ (t : Try OldCutting). if_failed t (first_of fs)) (h.0 v)
    ∙ or_agrees (first_of fs) (first_of gs) (agree_first fs gs h.1) (g v)
