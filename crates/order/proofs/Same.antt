-- With nothing exchanged, the stem is the definition's. Assumes nothing.
use mathlib.Core.Path.{◌≡◌, refl, sym, ap, ◌∙◌}
use mathlib.Core.Logic.{inl, inr}
use mathlib.Core.List.{List, [], ◌∷◌, map}
use Rattle.definition.specs.Words.{Word}
use Rattle.definition.specs.Tries.{Step, Try, done, failed, after, if_failed, ◌then_try◌, first_of, attempt}
use Rattle.definition.specs.Kind.{Kind, kind}
use Rattle.definition.specs.Normal.{normalise}
use Rattle.definition.specs.Endings.{verb, noun, endings_leave}
use Rattle.definition.specs.Fronts.{prefix_step3a_noun, prefix_step3b_noun, Fronting, text, apply, prefix_steps, started, fronts}
use Rattle.definition.specs.Finish.{finish}
use Rattle.definition.specs.Stem.{stem}
use Rattle.order.specs.Order.{unexchanged, ordered, from_here, rewound_if_failed, verb_by, noun_by, endings_by, prefix_steps_by, finish_by, stem_by}
use Rattle.order.proofs.Exchange.{Clean, first_fails, first_succeeds}
use Rattle.order.proofs.Fronts.{third_from, bare, verb-fronts, apply_clean, here_fails}

-- ---- item 3
endings-same : (k : Kind) (n : Word) → (after (endings_by unexchanged k n)).text ≡ endings_leave k n
unfolding endings_by verb_by noun_by ordered verb noun
endings-same k n = refl

-- ---- item 4
module _ (f : Fronting) (e : f.passed ≡ []) where
  first-same : (g : Step Fronting) (fs : List (Step Fronting)) → Clean g f → text (after (first_of (map from_here fs) f)) ≡ text (after (first_of fs f))
      → text (after (first_of (map from_here (g ∷ fs)) f)) ≡ text (after (first_of (g ∷ fs) f))
  first-same g fs (inl s) h = ap (λ (x : Try Fronting). text (after x)) (first_succeeds (from_here g) (map from_here fs) f (s.0, ap rewound_if_failed s.1) ∙ sym (first_succeeds g fs f s))
  first-same g fs (inr p) h =
      ap (λ (x : Try Fronting). text (after x)) (first_fails (from_here g) (map from_here fs) f (here_fails g f e p)) ∙ h
      ∙ sym (ap (λ (x : Try Fronting). text (after x)) (first_fails g fs f p))

  last-same : (g : Step Fronting) → text (after (first_of (map from_here (g ∷ [])) f)) ≡ text (after (first_of (g ∷ []) f))
  unfolding first_of
  last-same g = go (g f)
    where
      go : (t : Try Fronting) → text (after (if_failed (rewound_if_failed t) (first_of []))) ≡ text (after (if_failed t (first_of [])))
      go (done x) = refl
      go (failed x) = refl

fronts-same : (k : Kind) (n : Word) → text (after (prefix_steps_by unexchanged k (started n))) ≡ text (fronts k n)
unfolding prefix_steps_by ordered fronts prefix_steps ◌then_try◌ attempt third_from
fronts-same k n =
    first-same (third_from n) (bare n) (apply prefix_step3a_noun) (apply prefix_step3b_noun ∷ verb-fronts k ∷ []) (apply_clean prefix_step3a_noun (third_from n))
    (first-same (third_from n) (bare n) (apply prefix_step3b_noun) (verb-fronts k ∷ []) (apply_clean prefix_step3b_noun (third_from n)) (last-same (third_from n) (bare n) (verb-fronts k)))

-- ---- item 5
finish-same : (w : Word) → finish_by unexchanged w ≡ finish w
unfolding finish_by ordered finish
finish-same w = refl

pub same : (w : Word) → stem_by unexchanged w ≡ stem w
unfolding stem_by ordered stem
same w =
    finish-same _
    ∙ ap finish (fronts-same (kind w) (after (endings_by unexchanged (kind w) (normalise w))).text
    ∙ ap (λ (n : Word). text (fronts (kind w) n)) (endings-same (kind w) (normalise w)))
