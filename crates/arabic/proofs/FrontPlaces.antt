-- The places that a step of item 4 leaves: as many as letters go are taken out where the row stood. Assumes nothing.
use mathlib.Core.Path.{◌≡◌, refl, sym, ap, ◌∙◌}
use mathlib.Core.List.{List, [], ◌∷◌, ◌++◌, append-nil}
use Prim.Native.Nat.{ℕ, zero, suc, ◌+◌, ◌-◌, ◌*◌, ◌≤◌}
use native.Mathlib.Omega.{arith}
use lib.ListN.{length, take, drop, get_or, length-append, take-append-drop}
use lib.Seq.{length-take-le, take_at, drop_at, drop-drop}
use Rattle.definition.specs.Words.{Word}
use Rattle.definition.specs.Fronts.{Applied, front_row, replacement, unreplaced, Fronting, passing, headed, started}
use Rattle.places.specs.Places.{head_from}
use Rattle.places.proofs.Heads.{from_two, from_least}
use Rattle.snowball.specs.Cut.{replaced}
use Rattle.arabic.specs.Fronts.{cursor_of, head_places, front_places, HeadPlaced}

-- ---- the head letter's place
head_more : (front x : Word) → 2 ≤ length front → head_from (front ++ x) ≡ head_from front
head_more [] x h = absurd (omega arith)
head_more (c ∷ []) x h = absurd (omega arith)
head_more (c ∷ d ∷ front) x h = from_two c d (front ++ x) ∙ sym (from_two c d front)

-- the front grows behind its first two letters
stays : (ps : List ℕ) (head front x : Word) → 2 * length head ≤ length front → take (length head) (drop (head_from (front ++ x)) ps) ≡ take (length head) (drop (head_from front) ps)
stays ps [] front x h = refl
stays ps (c ∷ head) front x h = ap (λ (n : ℕ). take (length (c ∷ head)) (drop n ps)) (head_more front x (omega arith))

module _ (ps : List ℕ) (f : Fronting) (m : Applied) (h : HeadPlaced ps f) where
  same_head : head_places ps (passing f m) ≡ head_places ps f
  same_head = stays ps f.head_letter f.front (unreplaced m) h.two

  pub passing_placed : HeadPlaced ps (passing f m)
  passing_placed = record { head = ap length same_head ∙ h.head; two = omega (arith, h.two, length-append f.front (unreplaced m)) }

  abbrev gone : ℕ
  gone = length (front_row m) - length (replacement m)

  -- where nothing is passed, the letters that go are those behind the front
  pub passing-places : f.passed ≡ [] → length (replacement m) ≤ length (front_row m)
      → replaced (front_places ps f) (cursor_of f) (cursor_of f + length (front_row m) - length (replacement m)) [] ≡ front_places ps (passing f m)
  passing-places u l =
      let b : cursor_of f ≡ length (head_places ps f) = ap (λ (p : Word). length (f.head_letter ++ p)) u ∙ ap length (append-nil f.head_letter) ∙ sym h.head in
      let k : cursor_of f + length (front_row m) - length (replacement m) ≡ cursor_of f + gone = omega arith in
      let n : length f.front + gone ≡ length (f.front ++ unreplaced m) =
      omega (arith, length-append f.front (unreplaced m), length-take-le gone (front_row m) (omega arith)) in
      let behind : List ℕ = drop (length f.front) ps in
      (λ i. append-nil (take (cursor_of f) (front_places ps f)) i ++ drop (k i) (front_places ps f))
      ∙ (λ i. take_at (head_places ps f) behind (cursor_of f) (sym b) i ++ sym (drop-drop gone (cursor_of f) (front_places ps f)) i)
      ∙ (λ i. sym same_head i ++ drop gone (drop_at (head_places ps f) behind (cursor_of f) (sym b) i))
      ∙ ap (λ (x : List ℕ). head_places ps (passing f m) ++ x) (drop-drop gone (length f.front) ps ∙ ap (λ (j : ℕ). drop j ps) n)

  -- where as many letters are put as the row has, none goes
  pub level-places : length (replacement m) ≡ length (front_row m)
      → replaced (front_places ps f) (cursor_of f) (cursor_of f + length (front_row m) - length (replacement m)) [] ≡ front_places ps (passing f m)
  level-places e =
      let k : cursor_of f + length (front_row m) - length (replacement m) ≡ cursor_of f = omega arith in
      let z : gone ≡ 0 = omega arith in
      let n : length f.front ≡ length (f.front ++ unreplaced m) =
      omega (arith, length-append f.front (unreplaced m), length-take-le gone (front_row m) (omega arith)) in
      (λ i. append-nil (take (cursor_of f) (front_places ps f)) i ++ drop (k i) (front_places ps f))
      ∙ take-append-drop (cursor_of f) (front_places ps f)
      ∙ (λ i. sym same_head i ++ drop (n i) ps)

-- ---- Step1, at the start
pub start_placed : (ps : List ℕ) (w : Word) → HeadPlaced ps (started w)
unfolding started
start_placed ps w = record { head = refl; two = omega arith }

-- the second of the first two letters keeps its place, or the first where both have the same
head_of_two : (ps row : List ℕ) → 2 ≤ length ps → (head_from row ≡ 0 → get_or ps 0 0 ≡ get_or ps 1 0) → drop 1 ps ≡ take 1 (drop (head_from row) ps) ++ drop 2 ps
head_of_two [] row l e = absurd (omega arith)
head_of_two (p ∷ []) row l e = absurd (omega arith)
head_of_two (p ∷ q ∷ ps) row l e = go (head_from row) refl
  where
    go : (n : ℕ) → head_from row ≡ n → q ∷ ps ≡ take 1 (drop (head_from row) (p ∷ q ∷ ps)) ++ ps
    go zero z = ap (λ (x : ℕ). x ∷ ps) (sym (e z)) ∙ ap (λ (n : ℕ). take 1 (drop n (p ∷ q ∷ ps)) ++ ps) (sym z)
    go (suc zero) z = ap (λ (n : ℕ). take 1 (drop n (p ∷ q ∷ ps)) ++ ps) (sym z)
    go (suc (suc n)) z = absurd (omega (arith, from_least row))

module _ (ps : List ℕ) (w : Word) (m : Applied) (two : length (front_row m) ≡ 2) (one : length (replacement m) ≡ 1) (l : 2 ≤ length ps) where
  pub headed-places : (head_from (front_row m) ≡ 0 → get_or ps 0 0 ≡ get_or ps 1 0)
      → replaced (front_places ps (started w)) (cursor_of (started w)) (cursor_of (started w) + length (front_row m) - length (replacement m)) [] ≡ front_places ps (headed (started w) m)
  unfolding started
  headed-places e =
      let z : 0 + length (front_row m) - length (replacement m) ≡ 1 = omega arith in
      ap (λ (n : ℕ). drop n ps) z
      ∙ head_of_two ps (front_row m) l e
      ∙ (λ i. take (sym one i) (drop (head_from (front_row m)) ps) ++ drop (sym two i) ps)

  pub headed_placed : HeadPlaced ps (headed (started w) m)
  unfolding started
  headed_placed = record {
    head = length-take-le (length (replacement m)) (drop (head_from (front_row m)) ps) (omega (arith, from_least (front_row m), lib.ListN.length-drop (head_from (front_row m)) ps));
    two = omega arith;
  }
