-- The changes that an environment has noted are the deeds of items 3 and 4. Assumes nothing.
use mathlib.Core.Path.{◌≡◌, refl, sym, ap, ◌∙◌, subst}
use mathlib.Core.Bool.{Bool}
use mathlib.Core.Logic.{inl}
use mathlib.Core.List.{List, [], ◌∷◌, ◌++◌, map, reverse, reverse-cons, append-nil}
use Prim.Native.Nat.{ℕ, ◌-◌, ◌≤◌}
use native.Mathlib.Omega.{arith}
use lib.Dec.{eqb}
use lib.ListN.{length, take, drop, length-take, length-drop}
use Rattle.std.specs.Prelude.{codes}
use Rattle.definition.specs.Letters.{alef_maksura}
use Rattle.definition.specs.Words.{Word, pick, same, begins_with, ends_with}
use Rattle.definition.specs.Search.{longer, longest}
use Rattle.definition.proofs.Match.{by}
use Rattle.definition.specs.Tables.{A_21}
use Rattle.definition.specs.Tries.{Try, done, failed}
use Rattle.definition.specs.Kind.{Kind}
use Rattle.definition.specs.Endings.{Cut, Cutting, endings}
use Rattle.definition.specs.Fronts.{Applied}
use Rattle.definition.specs.StepRow.{alef_maqsura, step_row}
use Rattle.definition.specs.Stem.{cutting}
use Rattle.utf8.specs.Utf8.{encode1, encode}
use Rattle.snowball.specs.declared.env.Env.{Env}
use Rattle.arabic.specs.Changes.{in_order, cut_number, front_number, cut_numbers, front_numbers, Noted}
use Rattle.arabic.specs.Endings.{maqsura_row}
use Rattle.history.specs.Steps.{Deed, name, table_of, row_of, put, put_for}
use Rattle.history.specs.Steps.{alef_maqsura as maqsura_step, by as deed_by}
use Rattle.history.specs.History.{last_of, row_for, is_key, keys_in, cut_deed, front_deed, maqsura_deeds}
use Rattle.story.specs.declared.page.Page.{Page}
use Rattle.story.specs.Telling.{Tells, Fits, IsDeed, NotedAs, AllNoted, ending_deeds}
use Rattle.story.proofs.Lines.{tells_both, fits_first, fits_second}
use Rattle.story.proofs.Halves.{last_of_is}

-- ---- as many as are made
pub few_made : (e : Env) (ns : List ℕ) → Noted e ns → e.made ≤ length e.changes
few_made e ns k = omega (arith, k.made, ap length k.changes, length-take (length ns) e.changes)

pub noted_are : (e : Env) (ns : List ℕ) → Noted e ns → take e.made e.changes ≡ ns
noted_are e ns k = ap (λ (n : ℕ). take n e.changes) k.made ∙ k.changes

-- ---- each is noted as its number
noted_more : (ds : List Deed) (ns : List ℕ) (d : Deed) (n : ℕ) → AllNoted ds ns → NotedAs d n → AllNoted (ds ++ (d ∷ [])) (ns ++ (n ∷ []))
noted_more [] [] d n k h = (h, tt)
noted_more [] (m ∷ ns) d n k h = absurd k
noted_more (x ∷ ds) [] d n k h = absurd k
noted_more (x ∷ ds) (m ∷ ns) d n k h = (k.0, noted_more ds ns d n k.1 h)

map_more : {A : Type 0} (f : A → Deed) (x : A) (xs : List A) → map f (reverse (x ∷ xs)) ≡ map f (reverse xs) ++ (f x ∷ [])
map_more {A} f x xs = ap (map f) (reverse-cons x xs) ∙ map_end (reverse xs)
  where
    map_end : (ys : List A) → map f (ys ++ (x ∷ [])) ≡ map f ys ++ (f x ∷ [])
    map_end [] = refl
    map_end (y ∷ ys) = ap (λ (zs : List Deed). f y ∷ zs) (map_end ys)

noted_in_order : {A : Type 0} (f : A → Deed) (number : A → ℕ) → ((x : A) → NotedAs (f x) (number x)) → (xs : List A) → AllNoted (map f (reverse xs)) (in_order number xs)
noted_in_order f number k [] = tt
noted_in_order f number k (x ∷ xs) =
    subst (λ (ds : List Deed). AllNoted ds (in_order number xs ++ (number x ∷ []))) (sym (map_more f x xs)) (noted_more (map f (reverse xs)) (in_order number xs) (f x) (number x) (noted_in_order f number k xs) (k x))

pub cuts_noted : (cs : List Cut) → AllNoted (map cut_deed (reverse cs)) (cut_numbers cs)
cuts_noted = noted_in_order cut_deed cut_number (λ c. refl)

pub fronts_noted : (ms : List Applied) → AllNoted (map front_deed (reverse ms)) (front_numbers ms)
fronts_noted = noted_in_order front_deed front_number (λ m. refl)

-- ---- the last 0649
one_or_none : (u : Word) → length u ≤ 1 → keys_in maqsura_step u ≡ pick (same u (alef_maksura ∷ [])) (deed_by maqsura_step 0 ∷ []) []
unfolding keys_in is_key row_for table_of A_21 longest longer begins_with same
one_or_none [] h = refl
one_or_none (c ∷ []) h = by (eqb c alef_maksura) (λ e. rw e refl) (λ e. rw e refl)
one_or_none (c ∷ d ∷ u) h = absurd (omega (arith, h))

searched : (w : Word) → step_row alef_maqsura w ≡ pick (same (last_of w) (alef_maksura ∷ [])) 0 1
unfolding A_21 longest longer ends_with
searched w = rw (last_of_is w) (by (same (drop (length w - 1) w) (alef_maksura ∷ [])) (λ e. rw e refl) (λ e. rw e refl))

last_few : (w : Word) → length (last_of w) ≤ 1
last_few w = omega (arith, ap length (last_of_is w), length-drop (length w - 1) w)

module _ (w : Word) where
  last_changed : step_row alef_maqsura w ≡ 0 → keys_in maqsura_step (last_of w) ≡ deed_by maqsura_step 0 ∷ []
  last_changed e = by (same (last_of w) (alef_maksura ∷ []))
      (λ t. one_or_none (last_of w) (last_few w) ∙ ap (λ (b : Bool). pick b (deed_by maqsura_step 0 ∷ []) []) t)
      (λ f. absurd (omega (arith, e, searched w ∙ ap (λ (b : Bool). pick b 0 1) f)))

  last_noted : (step_row alef_maqsura w ≡ 0 → ⊥) → keys_in maqsura_step (last_of w) ≡ []
  last_noted n = by (same (last_of w) (alef_maksura ∷ []))
      (λ t. absurd (n (searched w ∙ ap (λ (b : Bool). pick b 0 1) t)))
      (λ f. one_or_none (last_of w) (last_few w) ∙ ap (λ (b : Bool). pick b (deed_by maqsura_step 0 ∷ []) []) f)

-- where the row of item 3's last search is the first, and where it is none
pub maqsura_found : (y : Try Cutting) (row : ℕ) → row ≡ maqsura_row y → row ≡ 0 → maqsura_deeds y ≡ deed_by maqsura_step 0 ∷ []
unfolding maqsura_row maqsura_deeds A_21
maqsura_found (done v) row r e = absurd (omega (arith, r, e))
maqsura_found (failed v) row r e = last_changed v.text (sym r ∙ e)

pub maqsura_none : (y : Try Cutting) (row : ℕ) → row ≡ maqsura_row y → (row ≡ 0 → ⊥) → maqsura_deeds y ≡ []
unfolding maqsura_row maqsura_deeds
maqsura_none (done v) row r n = refl
maqsura_none (failed v) row r n = last_noted v.text (λ e. n (r ∙ e))

pub maqsura_deed : IsDeed (deed_by maqsura_step 0) (codes "Suffix All alef maqsura") (0xD9 ∷ 0x89 ∷ []) 1
unfolding name row_of put table_of A_21 put_for encode encode1
maqsura_deed = record { named = refl; row = ((inl (omega arith), tt), refl); puts = refl }

-- ---- item 3: of a normalised word n of kind k
module _ (k : Kind) (n : Word) {p : Page} (f : Fits p (ending_deeds k n)) where
  abbrev cuts : List Deed
  cuts = map cut_deed (reverse (cutting k n).cuts)

  pub fits_cuts : Fits p (map cut_deed (reverse (cutting k n).cuts))
  unfolding ending_deeds
  fits_cuts = fits_first cuts (maqsura_deeds (endings k n)) p f

  module _ {q : Page} (t : Tells p (map cut_deed (reverse (cutting k n).cuts)) q) where
    pub fits_maqsura : (row : ℕ) → row ≡ maqsura_row (endings k n) → row ≡ 0 → Fits q (deed_by maqsura_step 0 ∷ [])
    unfolding ending_deeds
    fits_maqsura row r e = subst (Fits q) (maqsura_found (endings k n) row r e) (fits_second cuts (maqsura_deeds (endings k n)) p f q t)

    pub endings_told : (row : ℕ) → row ≡ maqsura_row (endings k n) → row ≡ 0 → (r : Page) → Tells q (deed_by maqsura_step 0 ∷ []) r → Tells p (ending_deeds k n) r
    unfolding ending_deeds
    endings_told row e z r u = tells_both cuts (maqsura_deeds (endings k n)) t (subst (λ (ds : List Deed). Tells q ds r) (sym (maqsura_found (endings k n) row e z)) u)

    pub cuts_told : (row : ℕ) → row ≡ maqsura_row (endings k n) → (row ≡ 0 → ⊥) → Tells p (ending_deeds k n) q
    unfolding ending_deeds
    cuts_told row e z = subst (λ (ds : List Deed). Tells p (cuts ++ ds) q) (sym (maqsura_none (endings k n) row e z)) (subst (λ (ds : List Deed). Tells p ds q) (sym (append-nil cuts)) t)
