-- The repeated step: a turn of the loop, and its end. Assumes nothing.
use mathlib.Core.Path.{◌≡◌, refl, ap, ◌∙◌, subst}
use mathlib.Core.Bool.{true, false}
use Rattle.std.specs.Prelude.{Ok, Err}
use Prim.Native.Nat.{ℕ, ◌≤◌, ◌<◌}
use native.Mathlib.Omega.{arith}
use lib.ListN.{length, take}
use lib.Seq.{length-take-le, take-length}
use Rattle.definition.specs.Tries.{Try, done, failed, after, is_done, again}
use Rattle.definition.specs.Endings.{SuffixStep, Cutting, cut}
use Rattle.definition.proofs.Match.{by}
use Rattle.definition.proofs.Again.{again_turn, again_stop, cut-takes, cut_fails}
use Rattle.utf8.specs.Places.{size}
use Rattle.utf8.proofs.Places.{size_strict}
use Rattle.snowball.specs.declared.env.Env.{Env}
use Rattle.std.specs.Prelude.{List}
use Rattle.arabic.specs.Endings.{Ends, Ready, Gives}

-- where the loop stands at e, every text that it began with is to be cut as far as one that e stands for
abbrev pub Same : SuffixStep → Env → Env → Type 0
Same k e₀ e = (ps : List ℕ) (v₀ : Cutting) → Ends ps e₀ v₀ → (n : ℕ) → length v₀.text ≤ n → (v : Cutting) × (Ends ps e v × ((length v.text ≤ n) × (again n (cut k) v₀ ≡ again n (cut k) v)))

-- a turn that cuts
module _ (k : SuffixStep) (e x : Env) (g : (ps : List ℕ) (v : Cutting) → Ends ps e v → Gives ps (Ok x) (cut k v)) where
  cuts : (ps : List ℕ) (v : Cutting) → Ends ps e v → (is_done (cut k v) ≡ true) × Ends ps x (after (cut k v))
  cuts ps v st = go (cut k v) (g ps v st)
    where
      go : (y : Try Cutting) → Gives ps (Ok x) y → (is_done y ≡ true) × Ends ps x (after y)
      go (done a) h = (refl, h)
      go (failed a) h = absurd h

  pub turn_less : Ready e → x.limit < e.limit
  turn_less r =
      let v = r.0 in
      let s = cuts r.1.0 v r.1.1 in
      let c = cut-takes k v s.0 in
      let a : size (after (cut k v)).text ≡ size (take c.0 v.text) = ap size c.2 in
      let b : size (take (length v.text) v.text) ≡ size v.text = ap size (take-length v.text) in
      omega (arith, s.1.stands.sized, r.1.1.stands.sized, size_strict v.text c.0 (length v.text) c.1 (omega arith))

  pub turn_same : Ready e → (e₀ : Env) → Same k e₀ e → Ready x × Same k e₀ x
  turn_same p e₀ f = (
    (_, (_, (cuts p.1.0 p.0 p.1.1).1)),
    λ ps v₀ st n h.
        let q = f ps v₀ st n h in
        let v = q.0 in
        let s = cuts ps v q.1.0 in
        let c = cut-takes k v s.0 in
        let l : length (after (cut k v)).text ≡ c.0 = ap length c.2 ∙ length-take-le c.0 v.text (omega (arith, c.1)) in
        (after (cut k v), (s.1, (omega (arith, c.1, q.1.1.0), q.1.1.1 ∙ again_turn k n v q.1.1.0 s.0))),
  )

-- the turn that does not
pub turn_end : (k : SuffixStep) (e x : Env) → ((ps : List ℕ) (v : Cutting) → Ends ps e v → Gives ps (Err x) (cut k v)) → (e₀ : Env) → Same k e₀ e
    → (ps : List ℕ) (v₀ : Cutting) → Ends ps e₀ v₀ → (n : ℕ) → length v₀.text ≤ n → (w : Cutting) × ((again n (cut k) v₀ ≡ done w) × Ends ps x w)
turn_end k e x g e₀ f ps v₀ st n h =
    let q = f ps v₀ st n h in
    let v = q.0 in
    let s = go (cut k v) (g ps v q.1.0) in
    (v, (q.1.1.1 ∙ again_stop k n v s.0, subst (Ends ps x) (cut_fails k v s.0) s.1))
  where
    go : (y : Try Cutting) → Gives ps (Err x) y → (is_done y ≡ false) × Ends ps x (after y)
    go (done a) h = absurd h
    go (failed a) h = (refl, h)

-- what a cut leaves is no longer than the text
pub after-fits : (k : SuffixStep) (v : Cutting) → length (after (cut k v)).text ≤ length v.text
after-fits k v = by (is_done (cut k v))
    (λ d. let c = cut-takes k v d in let l : length (after (cut k v)).text ≡ c.0 = ap length c.2 ∙ length-take-le c.0 v.text (omega (arith, c.1)) in omega (arith, c.1))
    (λ d. let e : length (after (cut k v)).text ≡ length v.text = ap (λ (w : Cutting). length w.text) (cut_fails k v d) in omega arith)
