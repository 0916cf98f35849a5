-- The places of a stem: what is taken of the normalised letters and of their places is the same. Assumes nothing.
use mathlib.Core.Path.{◌≡◌, refl, sym, ap, ◌∙◌, subst}
use mathlib.Core.List.{List, [], ◌∷◌, ◌++◌}
use Prim.Native.Nat.{ℕ, zero, suc, ◌+◌, ◌-◌, ◌≤◌, ◌<◌}
use native.Mathlib.Omega.{arith}
use native.Mathlib.Nat.{zero-add}
use mathlib.Core.Bool.{Bool}
use lib.ListN.{length, take, drop, get_or, length-append, length-drop, get_or-append}
use lib.Seq.{take-append_seam, drop-append_seam, length-take-le, get_or-take, get_or-drop, get_or-append-add, get_or-append_right}
use lib.Dec.{ltb}
use borrow.Author.Tests.{ltb-true, ltb-false}
use Rattle.definition.specs.Words.{Word, pick}
use Rattle.definition.specs.Normal.{normal, normalise}
use Rattle.definition.specs.Stem.{stem, back, front, head_letter, run}
use Rattle.definition.specs.Floating.{unmarked, without_marks}
use Rattle.definition.specs.Demand3.{Demand3}
use Rattle.definition.proofs.Floating.{without-joined}
use Rattle.definition.proofs.Match.{by}
use Rattle.definition.proofs.Main.{main_demand3}
use Rattle.utf8.specs.Utf8.{encode1, encode}
use Rattle.utf8.proofs.Text.{encode1_pos, encode-append}
use Rattle.places.specs.Places.{Typed, typed, letters_of, marks_out, normal_places, head_from, kept_places, stem_places, places}
use Rattle.places.specs.Laws.{NeverFall, Origin, kept_letter, Placed}
use Rattle.places.proofs.Lists.{never_take, never_drop, never_parts, typed_unmarked, typed-rise, typed_stand, normal-rise, normal-length, normal-origin}
use Rattle.places.proofs.Heads.{Headed, unheaded, headed, from_two, from_least, head_of}

-- ---- what is taken of the normalised letters is head letter and run
pick_one : (c d i : ℕ) (rest : Word) → i ≤ 1 → take 1 (drop i (c ∷ d ∷ rest)) ≡ get_or (c ∷ d ∷ []) i 0 ∷ []
pick_one c d zero rest h = refl
pick_one c d (suc zero) rest h = refl
pick_one c d (suc (suc i)) rest h = absurd (omega arith)

module _ (w : Word) where
  abbrev n : Word
  n = normalise w

  parts : normalise w ≡ front w ++ (run w ++ back w)
  parts = (main_demand3 w).parts

  taken_head : Headed (front w) (head_letter w) → take (length (head_letter w)) (drop (head_from (front w)) (normalise w)) ≡ head_letter w
  taken_head (unheaded e) = ap (λ (x : Word). take (length x) (drop (head_from (front w)) n)) e ∙ sym e
  taken_head (headed c d rest e q) =
      let f : head_from (front w) ≡ head_from (c ∷ d ∷ []) = ap head_from e ∙ from_two c d rest in
      let m : n ≡ c ∷ d ∷ (rest ++ (run w ++ back w)) = parts ∙ ap (λ (x : Word). x ++ (run w ++ back w)) e in
      (λ i. take (length (q i)) (drop (f i) (m i))) ∙ pick_one c d (head_from (c ∷ d ∷ [])) (rest ++ (run w ++ back w)) (from_least (c ∷ d ∷ [])) ∙ sym q

  taken_run : take (length (run w)) (drop (length (front w)) (normalise w)) ≡ run w
  taken_run =
      ap (λ (x : Word). take (length (run w)) (drop (length (front w)) x)) parts
      ∙ ap (take (length (run w))) (drop-append_seam (front w) (run w ++ back w))
      ∙ take-append_seam (run w) (back w)

  pub taken_both : kept_places w (normalise w) ≡ head_letter w ++ run w
  unfolding kept_places
  taken_both = λ i. taken_head (head_of w) i ++ taken_run i

-- ---- the places
module _ (w : Word) (ps : List ℕ) where
  pub kept-rise : NeverFall ps → NeverFall (kept_places w ps)
  unfolding kept_places
  kept-rise h = go (head_of w)
    where
      go : Headed (front w) (head_letter w)
          → NeverFall (take (length (head_letter w)) (drop (head_from (front w)) ps) ++ take (length (run w)) (drop (length (front w)) ps))
      go (unheaded e) =
          subst (λ (x : Word). NeverFall (take (length x) (drop (head_from (front w)) ps) ++ take (length (run w)) (drop (length (front w)) ps))) (sym e)
          (never_take (length (run w)) (drop (length (front w)) ps) (never_drop (length (front w)) ps h))
      go (headed c d rest e q) =
          let lf : length (front w) ≡ suc (suc (length rest)) = ap length e in
          let lh : length (head_letter w) ≡ 1 = ap length q in
          let l = from_least (front w) in
          never_parts (head_from (front w)) (length (head_letter w)) (length (front w)) (length (run w)) ps (omega arith) h

-- ---- the letter i of what is kept is that of the normalised letters which kept_letter says
module _ (w : Word) (ps : List ℕ) (long : length ps ≡ length (normalise w)) where
  enough : length (front w) + length (run w) ≤ length ps
  enough =
      omega (arith, long, ap length (parts w), length-append (front w) (run w ++ back w), length-append (run w) (back w))

  abbrev of_head : List ℕ
  of_head = take (length (head_letter w)) (drop (head_from (front w)) ps)

  abbrev of_run : List ℕ
  of_run = take (length (run w)) (drop (length (front w)) ps)

  head-length : length of_head ≡ length (head_letter w)
  head-length = go (head_of w)
    where
      go : Headed (front w) (head_letter w) → length of_head ≡ length (head_letter w)
      go (unheaded e) = ap (λ (x : Word). length (take (length x) (drop (head_from (front w)) ps))) e ∙ sym (ap length e)
      go (headed c d rest e q) =
          length-take-le (length (head_letter w)) (drop (head_from (front w)) ps)
          (omega (arith, ap length q, ap length e, from_least (front w), length-drop (head_from (front w)) ps, enough))

  run-length : length of_run ≡ length (run w)
  run-length = length-take-le (length (run w)) (drop (length (front w)) ps) (omega (arith, length-drop (length (front w)) ps, enough))

  pub kept-length : length (kept_places w ps) ≡ length (head_letter w ++ run w)
  unfolding kept_places
  kept-length = omega (arith, length-append of_head of_run, head-length, run-length, length-append (head_letter w) (run w))

  -- a head letter is one letter
  one_head : (i : ℕ) → i < length (head_letter w) → i ≡ 0
  one_head i l = go (head_of w)
    where
      go : Headed (front w) (head_letter w) → i ≡ 0
      go (unheaded e) = absurd (omega (arith, ap length e))
      go (headed c d rest e q) = omega (arith, ap length q)

  pub kept-at : (i : ℕ) → i < length (head_letter w ++ run w) → get_or (kept_places w ps) i 0 ≡ get_or ps (kept_letter w i) 0
  unfolding kept_places kept_letter head_from
  kept-at i l =
      by (ltb i (length (head_letter w)))
      (λ e. let s = ltb-true i (length (head_letter w)) e in rw e (
      get_or-append of_head of_run 0 i (omega (arith, s, head-length))
      ∙ get_or-take (length (head_letter w)) (drop (head_from (front w)) ps) i 0 s
      ∙ get_or-drop (head_from (front w)) ps i 0
      ∙ ap (λ (k : ℕ). get_or ps k 0) (omega (arith, one_head i s))))
      (λ e. let s = ltb-false i (length (head_letter w)) e in rw e (
      get_or-append_right of_head of_run i 0 (omega (arith, s, head-length))
      ∙ ap (λ (k : ℕ). get_or of_run (i - k) 0) head-length
      ∙ get_or-take (length (run w)) (drop (length (front w)) ps) (i - length (head_letter w)) 0 (omega (arith, l, s, length-append (head_letter w) (run w)))
      ∙ get_or-drop (length (front w)) ps (i - length (head_letter w)) 0))

  pub kept-below : (i : ℕ) → i < length (head_letter w ++ run w) → kept_letter w i < length ps
  unfolding kept_letter head_from
  kept-below i l =
      by (ltb i (length (head_letter w)))
      (λ e. rw e (go (ltb-true i (length (head_letter w)) e) (head_of w)))
      (λ e. rw e (omega (arith, l, ltb-false i (length (head_letter w)) e, length-append (head_letter w) (run w), enough)))
    where
      go : i < length (head_letter w) → Headed (front w) (head_letter w) → head_from (front w) < length ps
      go s (unheaded e) = absurd (omega (arith, s, ap length e))
      go s (headed c d rest e q) = omega (arith, from_least (front w), ap length e, enough)

pub places_placed : (w : Word) → Placed w (without_marks stem w) (places w)
unfolding places stem_places
places_placed w =
    let ts : List Typed = marks_out (typed w) in
    let v : Word = unmarked w in
    let ps : List ℕ = normal_places ts in
    let e : letters_of ts ≡ v = typed_unmarked w in
    let d : Demand3 v (stem v) = main_demand3 v in
    let n : length ps ≡ length (normalise v) = normal-length ts ∙ ap (λ (x : Word). length (normalise x)) e in
    let in_kept : (i : ℕ) → i < length (stem v) → i < length (head_letter v ++ run v) = λ i l. omega (arith, d.size) in
    subst (λ (x : Word). Placed w (stem v) (kept_places x ps)) (sym e) (record {
      size = kept-length v ps n ∙ sym d.size;
      rise = kept-rise v ps (normal-rise ts (typed-rise w));
      origin = λ i l.
          subst (λ (p : ℕ). Origin w (kept_letter v i) p) (sym (kept-at v ps n i (in_kept i l)))
          (subst (λ (k : ℕ). Origin w k (get_or ps (kept_letter v i) 0)) (zero-add (kept_letter v i))
          (normal-origin w 0 ts (typed_stand w) (kept_letter v i) (kept-below v ps n i (in_kept i l))));
      kept = λ i l. ap (λ (x : Word). get_or x i 0) (sym (taken_both v)) ∙ kept-at v (normalise v) refl i (in_kept i l);
      changes = d.changes;
    })

-- the normalised letter is what normalising gives for the letter at its place
pub origin-given : (w : Word) (k p : ℕ) (o : Origin w k p) → get_or (without_marks normalise w) k 0 ≡ get_or (normal o.letter) o.part 0
unfolding unmarked normalise
origin-given w k p o =
    let x : Word = without_marks normalise o.before in
    let y : Word = without_marks normalise o.behind in
    ap (λ (v : Word). get_or (without_marks normalise v) k 0) o.typed
    ∙ ap (λ (v : Word). get_or v k 0) (without-joined o.before (o.letter ∷ o.behind))
    ∙ ap (λ (b : Bool). get_or (x ++ normalise (pick b (unmarked o.behind) (o.letter ∷ unmarked o.behind))) k 0) o.no_mark
    ∙ ap (λ (n : ℕ). get_or (x ++ (normal o.letter ++ y)) n 0) o.at
    ∙ get_or-append-add x (normal o.letter ++ y) o.part 0
    ∙ get_or-append (normal o.letter) y 0 o.part o.inside

-- the letter at a place begins before the end of the word
origin-below : (w : Word) (k p : ℕ) → Origin w k p → p < length (encode w)
origin-below w k p o =
    let tail : length (encode (o.letter ∷ o.behind)) ≡ length (encode1 o.letter) + length (encode o.behind) = unfold encode in length-append (encode1 o.letter) (encode o.behind) in
    let whole : length (encode w) ≡ length (encode o.before) + length (encode (o.letter ∷ o.behind)) =
    ap (λ (x : Word). length (encode x)) o.typed ∙ ap length (encode-append o.before (o.letter ∷ o.behind)) ∙ length-append (encode o.before) (encode (o.letter ∷ o.behind)) in
    omega (arith, o.place, encode1_pos o.letter)

pub places-below : (w : Word) (i : ℕ) → i < length (places w) → get_or (places w) i 0 < length (encode w)
places-below w i l = let m = places_placed w in origin-below w _ (get_or (places w) i 0) (m.origin i (omega (arith, m.size)))
