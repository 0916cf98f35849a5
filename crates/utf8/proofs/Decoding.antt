-- What decodes is an encoded text: it starts with an encoded letter, and the rest decodes. Assumes nothing.
use mathlib.Core.Path.{◌≡◌, refl, sym, ap, ◌∙◌}
use Prim.Native.Nat.{ℕ, suc, ◌+◌, ◌-◌, ◌*◌, ◌/◌, ◌%◌, ◌≤◌, ◌<◌}
use mathlib.Core.Logic.{inl, inr}
use mathlib.Core.List.{List, [], ◌∷◌, ◌++◌}
use mathlib.Core.Option.{Option, none, some, none-ne-some, some-injective}
use native.Mathlib.Omega.{arith}
use lib.Dec.{leb, eqb}
use borrow.Author.Tests.{leb-true, eqb-false}
use Rattle.definition.specs.Words.{pick}
use Rattle.definition.proofs.Match.{by, by_le}
use Rattle.utf8.specs.Utf8.{Scalar, encode1, whole, more, bad, first, filled, step, onto, run, decode}
use Rattle.utf8.proofs.Encoding.{encode1_1, encode1_2, encode1_3, encode1_4, first_no, first_2, low3, high3, low4, high4, first_3, first_4, first_over, run-whole, run-first, cons?, run_1, run_lead, append?}

cons?-inv : (c : ℕ) (o : Option (List ℕ)) (cs : List ℕ) → cons? c o ≡ some cs → (t : List ℕ) × (o ≡ some t) × (cs ≡ c ∷ t)
cons?-inv c none cs e = absurd (none-ne-some cs e)
cons?-inv c (some t) cs e = (t, refl, sym (some-injective (c ∷ t) cs e))

pub append?-inv : (p : List ℕ) (o : Option (List ℕ)) (cs : List ℕ) → append? p o ≡ some cs → (t : List ℕ) × (o ≡ some t) × (cs ≡ p ++ t)
append?-inv p none cs e = absurd (none-ne-some cs e)
append?-inv p (some t) cs e = (t, refl, sym (some-injective (p ++ t) cs e))

-- a byte more, in its range
record Next (k a lo hi : ℕ) (bs cs : List ℕ) : Type 0 where
  b : ℕ
  r : List ℕ
  split : bs ≡ b ∷ r
  low : lo ≤ b
  high : b ≤ hi
  rest : onto (filled k (a * 64 + (b - 0x80))) (run (filled k (a * 64 + (b - 0x80))) r) ≡ some cs

run_more_inv : (k a lo hi : ℕ) (bs cs : List ℕ) → run (more k a lo hi) bs ≡ some cs → Next k a lo hi bs cs
unfolding run step onto
run_more_inv k a lo hi [] cs e = absurd (none-ne-some cs e)
run_more_inv k a lo hi (b ∷ r) cs e =
    by (leb lo b)
    (λ t. by (leb b hi)
    (λ u. record { b = b; r = r; split = refl; low = leb-true lo b t; high = leb-true b hi u; rest = rw (t, u) at e })
    (λ u. absurd (none-ne-some cs (rw (t, u) at e))))
    (λ t. absurd (none-ne-some cs (rw t at e)))

-- the first letter of bytes that decode
pub record Head (bs cs : List ℕ) : Type 0 where
  pub c : ℕ
  pub r : List ℕ
  pub t : List ℕ
  pub scalar : Scalar c
  pub bytes : bs ≡ encode1 c ++ r
  pub chars : cs ≡ c ∷ t
  pub rest : decode r ≡ some t

pick_le_inv : (b n p q x : ℕ) → q ≤ p → pick (eqb b n) p q ≤ x → (q ≤ x) × (b ≡ n → p ≤ x)
pick_le_inv b n p q x o h =
    by (eqb b n)
    (λ e. let h' : p ≤ x = rw e at h in (omega arith, λ _. h'))
    (λ e. let h' : q ≤ x = rw e at h in (h', λ w. absurd (eqb-false b n e w)))

le_pick_inv : (b n p q x : ℕ) → p ≤ q → x ≤ pick (eqb b n) p q → (x ≤ q) × (b ≡ n → x ≤ p)
le_pick_inv b n p q x o h =
    by (eqb b n)
    (λ e. let h' : x ≤ p = rw e at h in (omega arith, λ _. h'))
    (λ e. let h' : x ≤ q = rw e at h in (h', λ w. absurd (eqb-false b n e w)))

whole_inv : (v : ℕ) (r cs : List ℕ) → onto (whole v) (run (whole v) r) ≡ some cs → (t : List ℕ) × (decode r ≡ some t) × (cs ≡ v ∷ t)
unfolding onto
whole_inv v r cs e = let h = cons?-inv v (run (whole v) r) cs e in (h.0, run-whole 0 v r ∙ h.1, h.2)

last_inv : (v : ℕ) (r cs : List ℕ) → onto (filled 0 v) (run (filled 0 v) r) ≡ some cs → (t : List ℕ) × (decode r ≡ some t) × (cs ≡ v ∷ t)
unfolding filled
last_inv v r cs e = whole_inv v r cs e

next_inv : (k v : ℕ) (r cs : List ℕ) → onto (filled (suc k) v) (run (filled (suc k) v) r) ≡ some cs → run (more k v 0x80 0xBF) r ≡ some cs
unfolding filled onto
next_inv k v r cs e = e

two : (a b a' b' : ℕ) (r : List ℕ) → a ≡ a' → b ≡ b' → a ∷ b ∷ r ≡ (a' ∷ b' ∷ []) ++ r
two a b a' b' r e f = cc

three : (a b c a' b' c' : ℕ) (r : List ℕ) → a ≡ a' → b ≡ b' → c ≡ c' → a ∷ b ∷ c ∷ r ≡ (a' ∷ b' ∷ c' ∷ []) ++ r
three a b c a' b' c' r e f g = cc

four : (a b c d a' b' c' d' : ℕ) (r : List ℕ) → a ≡ a' → b ≡ b' → c ≡ c' → d ≡ d' → a ∷ b ∷ c ∷ d ∷ r ≡ (a' ∷ b' ∷ c' ∷ d' ∷ []) ++ r
four a b c d a' b' c' d' r e f g h = cc

-- the bytes of a number by its digits
digits_3 : (x y z v : ℕ) → y < 64 → z < 64 → v ≡ (x * 64 + y) * 64 + z → (v / 4096 ≡ x) × (v / 64 % 64 ≡ y) × (v % 64 ≡ z)
digits_3 x y z v hy hz e =
    let q : v / 64 ≡ x * 64 + y = omega arith in
    (omega arith, rw q (omega arith), omega arith)

digits_4 : (w x y z v : ℕ) → x < 64 → y < 64 → z < 64 → v ≡ ((w * 64 + x) * 64 + y) * 64 + z → (v / 262144 ≡ w) × (v / 4096 % 64 ≡ x) × (v / 64 % 64 ≡ y) × (v % 64 ≡ z)
digits_4 w x y z v hx hy hz e =
    let q : v / 64 ≡ (w * 64 + x) * 64 + y = omega arith in
    let p : v / 4096 ≡ w * 64 + x = omega arith in
    (omega arith, rw p (omega arith), rw q (omega arith), omega arith)

module _ (b : ℕ) (bs cs : List ℕ) (e : decode (b ∷ bs) ≡ some cs) where
  head_1 : b ≤ 0x7F → Head (b ∷ bs) cs
  head_1 h =
      let w = cons?-inv b (decode bs) cs (sym (run_1 b bs h) ∙ e) in
      record {
        c = b;
        r = bs;
        t = w.0;
        scalar = inl (omega arith);
        bytes = rw (encode1_1 b (omega arith)) refl;
        chars = w.2;
        rest = w.1;
      }

  head_2 : 0xC1 < b → b ≤ 0xDF → Head (b ∷ bs) cs
  head_2 h k =
      let n : Next 0 (b - 0xC0) 0x80 0xBF bs cs = run_more_inv 0 (b - 0xC0) 0x80 0xBF bs cs (sym (run_lead b 0 (b - 0xC0) 0x80 0xBF bs (first_2 b h k)) ∙ e) in
      let v : ℕ = (b - 0xC0) * 64 + (n.b - 0x80) in
      let w = last_inv v n.r cs n.rest in
      record {
        c = v;
        r = n.r;
        t = w.0;
        scalar = inl (omega arith);
        bytes =
            ap (λ (x : List ℕ). b ∷ x) n.split
            ∙ two b n.b (0xC0 + v / 64) (0x80 + v % 64) n.r (omega arith) (omega arith)
            ∙ ap (λ (x : List ℕ). x ++ n.r) (sym (encode1_2 v (omega arith) (omega arith)));
        chars = w.2;
        rest = w.1;
      }

  head_3 : 0xDF < b → b ≤ 0xEF → Head (b ∷ bs) cs
  head_3 h k =
      let n : Next 1 (b - 0xE0) (low3 b) (high3 b) bs cs = run_more_inv 1 (b - 0xE0) (low3 b) (high3 b) bs cs (sym (run_lead b 1 (b - 0xE0) (low3 b) (high3 b) bs (first_3 b h k)) ∙ e) in
      let u : ℕ = (b - 0xE0) * 64 + (n.b - 0x80) in
      let m : Next 0 u 0x80 0xBF n.r cs = run_more_inv 0 u 0x80 0xBF n.r cs (next_inv 0 u n.r cs n.rest) in
      let v : ℕ = u * 64 + (m.b - 0x80) in
      let w = last_inv v m.r cs m.rest in
      let lo = pick_le_inv b 0xE0 0xA0 0x80 n.b (omega arith) n.low in
      let hi = le_pick_inv b 0xED 0x9F 0xBF n.b (omega arith) n.high in
      let l : 0x80 ≤ n.b = lo.0 in
      let g : n.b ≤ 0xBF = hi.0 in
      let d = digits_3 (b - 0xE0) (n.b - 0x80) (m.b - 0x80) v (omega arith) (omega arith) refl in
      let big : 0x800 ≤ v = by_le b 0xE0 (λ q. let z : 0xA0 ≤ n.b = lo.1 (omega arith) in omega arith) (λ q. omega arith) in
      record {
        c = v;
        r = m.r;
        t = w.0;
        scalar = by_le b 0xEC (λ q. inl (omega arith)) (λ q. by_le b 0xED (λ q'. let z : n.b ≤ 0x9F = hi.1 (omega arith) in inl (omega arith)) (λ q'. inr (omega arith, omega arith)));
        bytes =
            ap (λ (x : List ℕ). b ∷ x) n.split
            ∙ ap (λ (x : List ℕ). b ∷ n.b ∷ x) m.split
            ∙ three b n.b m.b (0xE0 + v / 4096) (0x80 + v / 64 % 64) (0x80 + v % 64) m.r (omega (arith, d.0)) (omega (arith, d.1)) (omega (arith, d.2))
            ∙ ap (λ (x : List ℕ). x ++ m.r) (sym (encode1_3 v big (omega arith)));
        chars = w.2;
        rest = w.1;
      }

  head_4 : 0xEF < b → b ≤ 0xF4 → Head (b ∷ bs) cs
  head_4 h k =
      let n : Next 2 (b - 0xF0) (low4 b) (high4 b) bs cs = run_more_inv 2 (b - 0xF0) (low4 b) (high4 b) bs cs (sym (run_lead b 2 (b - 0xF0) (low4 b) (high4 b) bs (first_4 b h k)) ∙ e) in
      let u : ℕ = (b - 0xF0) * 64 + (n.b - 0x80) in
      let m : Next 1 u 0x80 0xBF n.r cs = run_more_inv 1 u 0x80 0xBF n.r cs (next_inv 1 u n.r cs n.rest) in
      let u' : ℕ = u * 64 + (m.b - 0x80) in
      let m' : Next 0 u' 0x80 0xBF m.r cs = run_more_inv 0 u' 0x80 0xBF m.r cs (next_inv 0 u' m.r cs m.rest) in
      let v : ℕ = u' * 64 + (m'.b - 0x80) in
      let w = last_inv v m'.r cs m'.rest in
      let lo = pick_le_inv b 0xF0 0x90 0x80 n.b (omega arith) n.low in
      let hi = le_pick_inv b 0xF4 0x8F 0xBF n.b (omega arith) n.high in
      let l : 0x80 ≤ n.b = lo.0 in
      let g : n.b ≤ 0xBF = hi.0 in
      let d = digits_4 (b - 0xF0) (n.b - 0x80) (m.b - 0x80) (m'.b - 0x80) v (omega arith) (omega arith) (omega arith) refl in
      let big : 0x10000 ≤ v = by_le b 0xF0 (λ q. let z : 0x90 ≤ n.b = lo.1 (omega arith) in omega arith) (λ q. omega arith) in
      let small : v < 0x110000 = by_le b 0xF3 (λ q. omega arith) (λ q. let z : n.b ≤ 0x8F = hi.1 (omega arith) in omega arith) in
      record {
        c = v;
        r = m'.r;
        t = w.0;
        scalar = inr (omega arith, small);
        bytes =
            ap (λ (x : List ℕ). b ∷ x) n.split
            ∙ ap (λ (x : List ℕ). b ∷ n.b ∷ x) m.split
            ∙ ap (λ (x : List ℕ). b ∷ n.b ∷ m.b ∷ x) m'.split
            ∙ four b n.b m.b m'.b (0xF0 + v / 262144) (0x80 + v / 4096 % 64) (0x80 + v / 64 % 64) (0x80 + v % 64) m'.r (omega (arith, d.0)) (omega (arith, d.1)) (omega (arith, d.2)) (omega (arith, d.3))
            ∙ ap (λ (x : List ℕ). x ++ m'.r) (sym (encode1_4 v big));
        chars = w.2;
        rest = w.1;
      }

  no_head_lem : first b ≡ bad → ⊥
  unfolding onto
  no_head_lem f = none-ne-some cs (sym (run-first b bad bs f) ∙ e)

  pub head : Head (b ∷ bs) cs
  head =
      by_le b 0x7F (λ h. head_1 h)
      (λ h₁. by_le b 0xC1 (λ h. absurd (no_head_lem (first_no b h₁ h)))
      (λ h₂. by_le b 0xDF (λ h. head_2 h₂ h)
      (λ h₃. by_le b 0xEF (λ h. head_3 h₃ h)
      (λ h₄. by_le b 0xF4 (λ h. head_4 h₄ h)
      (λ h₅. absurd (no_head_lem (first_over b h₅)))))))
