-- The endings among a word's deeds are its chain, and the fronts those that item 4 applies. Assumes nothing.
use mathlib.Core.Path.{◌≡◌, refl, ap, ◌∙◌}
use mathlib.Core.List.{List, [], ◌∷◌, ◌++◌, map, reverse, append-nil}
use Prim.Native.Nat.{ℕ}
use Rattle.std.specs.List.{All, flat_map}
use Rattle.std.proofs.lemmas.Grind.{flat_map-append}
use Rattle.std.proofs.lemmas.List.Elements.{All-head, All-tail, All-map}
use Rattle.definition.specs.Words.{Word}
use Rattle.definition.specs.Tries.{Try}
use Rattle.definition.specs.Kind.{kind}
use Rattle.definition.specs.Normal.{normalise}
use Rattle.definition.specs.Endings.{Cut, Cutting, endings}
use Rattle.definition.specs.Fronts.{Applied}
use Rattle.definition.specs.Fronts.{text as front_text}
use Rattle.definition.specs.Stem.{fronting, chain, applied}
use Rattle.definition.specs.Floating.{unmarked, without_marks}
use Rattle.history.specs.Steps.{Step, floating_mark, normalize_pre, alef_maqsura, normalize_post_last, normalize_post_other, Deed}
use Rattle.history.specs.History.{keys_in, cut_deed, front_deed, maqsura_deeds, post_deeds, stem_deeds, deeds}
use Rattle.history.specs.Laws.{as_cut, cuts_of, as_front, fronts_of}
use Rattle.history.proofs.Keys.{all_keys, all_maqsura, all_post}

-- where a step of single letters gives nothing, what the deeds give is what endings and fronts give
module _ {A : Type 0} (g : Step → ℕ → List A) where
  abbrev gives : Deed → List A
  gives d = g d.step d.row

  abbrev GivesNothing : Deed → Type 0
  GivesNothing d = gives d ≡ []

  abbrev Silent : Step → Type 0
  Silent s = (r : ℕ) → g s r ≡ []

  gathered_none : (ds : List Deed) → All GivesNothing ds → flat_map gives ds ≡ []
  gathered_none [] a = refl
  gathered_none (d ∷ ds) a = λ i. All-head GivesNothing d ds a i ++ gathered_none ds (All-tail GivesNothing d ds a) i

  module _ (mark : Silent floating_mark) (pre : Silent normalize_pre) (maqsura : Silent alef_maqsura) (last : Silent normalize_post_last) (other : Silent normalize_post_other) where
    gathered_stem : (w : Word) → flat_map gives (stem_deeds w) ≡ flat_map gives (map cut_deed (chain w)) ++ flat_map gives (map front_deed (reverse (applied w)))
    unfolding stem_deeds
    gathered_stem w =
        let y : Try Cutting = endings (kind w) (normalise w) in
        let t : Word = front_text (fronting (kind w) (normalise w)) in
        simp (
          flat_map-append,
          gathered_none (keys_in normalize_pre w) (all_keys GivesNothing normalize_pre (λ r l. pre r) w),
          gathered_none (maqsura_deeds y) (all_maqsura GivesNothing (λ r l. maqsura r) y),
          gathered_none (post_deeds t) (all_post GivesNothing (λ r l. last r) (λ r l. other r) t),
          append-nil,
        )

    gathered : (w : Word) → flat_map gives (deeds w) ≡ flat_map gives (map cut_deed (without_marks chain w)) ++ flat_map gives (map front_deed (reverse (without_marks applied w)))
    unfolding deeds
    gathered w = simp (flat_map-append, gathered_none (keys_in floating_mark w) (all_keys GivesNothing floating_mark (λ r l. mark r) w), gathered_stem (unmarked w))

cuts_of_cuts : (cs : List Cut) → cuts_of (map cut_deed cs) ≡ cs
cuts_of_cuts [] = refl
cuts_of_cuts (c ∷ cs) = ap (λ (x : List Cut). c ∷ x) (cuts_of_cuts cs)

fronts_of_fronts : (ms : List Applied) → fronts_of (map front_deed ms) ≡ ms
fronts_of_fronts [] = refl
fronts_of_fronts (m ∷ ms) = ap (λ (x : List Applied). m ∷ x) (fronts_of_fronts ms)

pub cuts_are_chain : (w : Word) → cuts_of (deeds w) ≡ without_marks chain w
cuts_are_chain w =
    let ms : List Applied = reverse (without_marks applied w) in
    gathered as_cut (λ r. refl) (λ r. refl) (λ r. refl) (λ r. refl) (λ r. refl) w
    ∙ (λ i. cuts_of_cuts (without_marks chain w) i ++ gathered_none as_cut (map front_deed ms) (All-map (λ (d : Deed). as_cut d.step d.row ≡ []) front_deed ms (λ j d l. refl)) i)
    ∙ append-nil (without_marks chain w)

pub fronts_are_applied : (w : Word) → fronts_of (deeds w) ≡ reverse (without_marks applied w)
fronts_are_applied w =
    let cs : List Cut = without_marks chain w in
    gathered as_front (λ r. refl) (λ r. refl) (λ r. refl) (λ r. refl) (λ r. refl) w
    ∙ (λ i. gathered_none as_front (map cut_deed cs) (All-map (λ (d : Deed). as_front d.step d.row ≡ []) cut_deed cs (λ j d l. refl)) i ++ fronts_of_fronts (reverse (without_marks applied w)) i)
