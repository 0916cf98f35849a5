-- Numbers beside the bytes of a text: of a text in two parts, of letters as wide, and of bytes numbered in turn. Assumes nothing.
use mathlib.Core.Path.{◌≡◌, refl, sym, ap, ◌∙◌}
use Prim.Native.Nat.{ℕ, suc, ◌+◌, ◌-◌, ◌≤◌, ◌<◌}
use mathlib.Core.List.{List, [], ◌∷◌, ◌++◌}
use native.Mathlib.Omega.{arith}
use lib.ListN.{length, take, drop, get_or, take-append-drop}
use lib.Seq.{length-take-le, drop-drop, get_or-take, get_or-drop, take_at, drop_at}
use Rattle.std.proofs.lemmas.List.{drop-take}
use Rattle.utf8.specs.Utf8.{encode1, encode}
use Rattle.utf8.specs.Places.{size}
use Rattle.utf8.specs.Beside.{at_letters, letter_starts, widths}
use Rattle.utf8.proofs.Text.{encode1_pos}
use Rattle.utf8.proofs.Ahead.{cons_size}

pub at_letters-length : (cs ps : List ℕ) → length (at_letters cs ps) ≡ length cs
unfolding at_letters
at_letters-length [] ps = refl
at_letters-length (c ∷ cs) ps = ap suc (at_letters-length cs (drop (length (encode1 c)) ps))

-- of two texts joined
pub at_letters-joined : (u v ps : List ℕ) → at_letters (u ++ v) ps ≡ at_letters u ps ++ at_letters v (drop (size u) ps)
unfolding at_letters encode
at_letters-joined [] v ps = refl
at_letters-joined (c ∷ u) v ps =
    ap (λ (x : List ℕ). get_or ps 0 0 ∷ x)
    (at_letters-joined u v (drop (length (encode1 c)) ps)
    ∙ ap (λ (x : List ℕ). at_letters u (drop (length (encode1 c)) ps) ++ at_letters v x)
    (drop-drop (size u) (length (encode1 c)) ps ∙ ap (λ (n : ℕ). drop n ps) (sym (cons_size c u))))

-- of a text cut in two
pub at_letters-cut : (cs ps : List ℕ) (n : ℕ) → at_letters cs ps ≡ at_letters (take n cs) ps ++ at_letters (drop n cs) (drop (size (take n cs)) ps)
at_letters-cut cs ps n = ap (λ (x : List ℕ). at_letters x ps) (sym (take-append-drop n cs)) ∙ at_letters-joined (take n cs) (drop n cs) ps

module _ (cs ps : List ℕ) (n : ℕ) (h : n ≤ length cs) where
  size_of_front : length (at_letters (take n cs) ps) ≡ n
  size_of_front = at_letters-length (take n cs) ps ∙ length-take-le n cs h

  pub at_letters-take : at_letters (take n cs) ps ≡ take n (at_letters cs ps)
  at_letters-take = sym (ap (take n) (at_letters-cut cs ps n) ∙ take_at (at_letters (take n cs) ps) _ n size_of_front)

  pub at_letters-drop : at_letters (drop n cs) (drop (size (take n cs)) ps) ≡ drop n (at_letters cs ps)
  at_letters-drop = sym (ap (drop n) (at_letters-cut cs ps n) ∙ drop_at (at_letters (take n cs) ps) _ n size_of_front)

-- only the numbers beside its bytes count
pub at_letters-front : (cs ps qs : List ℕ) (n : ℕ) → size cs ≤ n → take n ps ≡ take n qs → at_letters cs ps ≡ at_letters cs qs
unfolding at_letters
at_letters-front [] ps qs n h e = refl
at_letters-front (c ∷ cs) ps qs n h e =
    let w : ℕ = length (encode1 c) in
    let l = cons_size c cs in
    let pos : 0 < n = omega (arith, encode1_pos c) in
    let m : w + (n - w) ≡ n = omega arith in
    let tail : (l : List ℕ) → drop w (take n l) ≡ take (n - w) (drop w l) = λ l. ap (λ (k : ℕ). drop w (take k l)) (sym m) ∙ drop-take w (n - w) l in
    (λ i. (sym (get_or-take n ps 0 0 pos) ∙ ap (λ (x : List ℕ). get_or x 0 0) e ∙ get_or-take n qs 0 0 pos) i
    ∷ at_letters-front cs (drop w ps) (drop w qs) (n - w) (omega arith) (sym (tail ps) ∙ ap (drop w) e ∙ tail qs) i)

-- one letter more, beside which p stands
pub at_letters-more : (done : List ℕ) (c p : ℕ) (old new : List ℕ) → take (size done) new ≡ take (size done) old → get_or new (size done) 0 ≡ p
    → at_letters (done ++ (c ∷ [])) new ≡ at_letters done old ++ (p ∷ [])
unfolding at_letters
at_letters-more done c p old new e h =
    let z : size done + 0 ≡ size done = omega arith in
    at_letters-joined done (c ∷ []) new
    ∙ (λ i. at_letters-front done new old (size done) (omega arith) e i
    ++ ((get_or-drop (size done) new 0 0 ∙ ap (λ (k : ℕ). get_or new k 0) z ∙ h) i ∷ []))

-- letters as wide stand beside the same
pub at_letters-wide : (u v ps : List ℕ) → widths u ≡ widths v → at_letters u ps ≡ at_letters v ps
unfolding at_letters
at_letters-wide [] [] ps e = refl
at_letters-wide [] (d ∷ v) ps e = absurd (omega (arith, ap length e))
at_letters-wide (c ∷ u) [] ps e = absurd (omega (arith, ap length e))
at_letters-wide (c ∷ u) (d ∷ v) ps e =
    let h : length (encode1 c) ≡ length (encode1 d) = cc in
    let t : widths u ≡ widths v = cc in
    ap (λ (x : List ℕ). get_or ps 0 0 ∷ x) (ap (λ (n : ℕ). at_letters u (drop n ps)) h ∙ at_letters-wide u v (drop (length (encode1 d)) ps) t)

pub size-wide : (u v : List ℕ) → widths u ≡ widths v → size u ≡ size v
size-wide [] [] e = refl
size-wide [] (d ∷ v) e = absurd (omega (arith, ap length e))
size-wide (c ∷ u) [] e = absurd (omega (arith, ap length e))
size-wide (c ∷ u) (d ∷ v) e =
    let h : length (encode1 c) ≡ length (encode1 d) = cc in
    let t : widths u ≡ widths v = cc in
    omega (arith, cons_size c u, cons_size d v, size-wide u v t)

-- bytes that are numbered in turn
pub numbered_in_turn : (cs ps : List ℕ) (p : ℕ) → ((k : ℕ) → k < size cs → get_or ps k 0 ≡ p + k) → at_letters cs ps ≡ letter_starts p cs
unfolding at_letters letter_starts
numbered_in_turn [] ps p f = refl
numbered_in_turn (c ∷ cs) ps p f =
    let w : ℕ = length (encode1 c) in
    let l = cons_size c cs in
    let pos = encode1_pos c in
    let z : get_or ps 0 0 ≡ p = f 0 (omega arith) ∙ (let r : p + 0 ≡ p = omega arith in r) in
    (λ i. z i ∷ numbered_in_turn cs (drop w ps) (p + w) (λ k h. get_or-drop w ps k 0 ∙ f (w + k) (omega arith) ∙ (let r : p + (w + k) ≡ p + w + k = omega arith in r)) i)
