-- The loop that writes a row's letters, joined by +. Assumes nothing.
use mathlib.Core.Path.{◌≡◌, refl, sym, ap, ◌∙◌, subst}
use mathlib.Core.List.{List, [], ◌∷◌, ◌++◌, append_assoc, append-nil}
use Prim.Native.Nat.{ℕ, suc, ◌+◌, ◌-◌, ◌≤◌, ◌<◌}
use native.Mathlib.Omega.{arith}
use lib.ListN.{length, length-append}
use Rattle.definition.specs.Words.{Word}
use Rattle.definition.specs.Demand3.{AllOf}
use Rattle.utf8.specs.Utf8.{encode1}
use Rattle.utf8.specs.Letters.{Read}
use Rattle.utf8.specs.Spelt.{Encodes}
use Rattle.utf8.specs.declared.letters.Letter.{Letter}
use Rattle.utf8.proofs.Ahead as ahead
use Rattle.utf8.proofs.Ahead.{Ahead, Next}
use Rattle.history.specs.Text.{hex, spelt}
use Rattle.story.specs.declared.page.Page.{Page}
use Rattle.story.specs.Entry.{story_room}
use Rattle.story.specs.Telling.{written, Adds, plus_before}

-- what is still to be written of the letters w from the byte i on
abbrev pub to_write : ℕ → Word → List ℕ
to_write i [] = []
to_write i (c ∷ w) = plus_before i ++ spelt (c ∷ w)

abbrev pub Low : Word → Type 0
Low = AllOf (λ (c : ℕ). c < 65536)

pub record Inv (row : List ℕ) (old : Page) (i : ℕ) (page : Page) : Type 0 where
  pub to : Ahead row row i
  pub low : Low to.rest
  pub so_far : List ℕ
  pub adds : Adds old so_far page
  pub split : spelt to.word ≡ so_far ++ to_write i to.rest
  pub fits : old.len + length (spelt to.word) ≤ story_room

-- what is written twice over is written at once
pub adds_both : {p q r : Page} (a b : List ℕ) → Adds p a q → Adds q b r → Adds p (a ++ b) r
adds_both {p} a b h g = record {
  text = g.text ∙ ap (λ (t : List ℕ). t ++ b) h.text ∙ append_assoc (written p) a b;
  len = omega (arith, g.len, h.len, length-append a b);
  letters = g.letters ∙ h.letters;
}

pub adds_none : (p : Page) → Adds p [] p
adds_none p = record { text = sym (append-nil (written p)); len = omega arith; letters = refl }

whole : (w : Word) → to_write 0 w ≡ spelt w
unfolding spelt
whole [] = refl
whole (c ∷ w) = refl

pub start : (row : List ℕ) (p : Page) (w : Word) → Encodes row w → Low w → p.len + length (spelt w) ≤ story_room → Inv row p 0 p
start row p w e l f = record { to = ahead.start row w e; low = l; so_far = []; adds = adds_none p; split = sym (whole w); fits = f }

-- behind a letter of at least one byte
behind : (i k c : ℕ) (t : Word) → 1 ≤ k → spelt (c ∷ t) ≡ hex c ++ to_write (i + k) t
unfolding spelt
behind i k c [] h = sym (append-nil (hex c))
behind i k c (d ∷ t) h = ap (λ (n : ℕ). hex c ++ (plus_before n ++ spelt (d ∷ t))) (let z : suc (i + k - 1) ≡ i + k = omega arith in z)

module _ {row : List ℕ} {old : Page} {i : ℕ} {page : Page} (v : Inv row old i page) where
  module _ (h : i < length row) where
    abbrev next : Next row i (length row) v.to.rest
    next = ahead.next v.to h

    low_next : Low (next.c ∷ next.t)
    low_next = subst Low next.is v.low

    split_next : (k : ℕ) → 1 ≤ k → spelt v.to.word ≡ (v.so_far ++ plus_before i ++ hex next.c) ++ to_write (i + k) next.t
    split_next k l =
        v.split ∙ ap (λ (w : Word). v.so_far ++ to_write i w) next.is
        ∙ ap (λ (t : List ℕ). v.so_far ++ (plus_before i ++ t)) (behind i k next.c next.t l)
        ∙ sym (append_assoc v.so_far (plus_before i) (hex next.c ++ to_write (i + k) next.t))
        ∙ sym (append_assoc (v.so_far ++ plus_before i) (hex next.c) (to_write (i + k) next.t))

    sizes : (k : ℕ) → 1 ≤ k → length (spelt v.to.word) ≡ length v.so_far + length (plus_before i) + 4 + length (to_write (i + k) next.t)
    sizes k l =
        omega (arith, ap length (split_next k l), length-append (v.so_far ++ plus_before i ++ hex next.c) (to_write (i + k) next.t), length-append (v.so_far ++ plus_before i) (hex next.c), length-append v.so_far (plus_before i))

    pub plus_fits : page.len + length (plus_before i) ≤ story_room
    plus_fits = omega (arith, sizes 1 (omega arith), v.adds.len, v.fits)

    module _ (p : Page) (a : Adds page (plus_before i) p) (l : Letter) (g : Read row i l) where
      is : (l.code ≡ next.c) × (l.width ≡ length (encode1 next.c))
      is = ahead.read_is v.to h l g

      pub hex_fits : (l.code < 65536) × (p.len + 4 ≤ story_room)
      hex_fits = (subst (λ (c : ℕ). c < 65536) (sym is.0) low_next.0, omega (arith, sizes 1 (omega arith), v.adds.len, a.len, v.fits))

      pub turn : (q : Page) → Adds p (hex l.code) q → Inv row old (i + l.width) q
      turn q b =
          let w : 1 ≤ l.width = omega (arith, is.1, next.wide) in
          record {
            to = ahead.past v.to next row (i + l.width) (ap (λ (x : ℕ). i + x) is.1) refl;
            low = low_next.1;
            so_far = v.so_far ++ plus_before i ++ hex next.c;
            adds = adds_both (v.so_far ++ plus_before i) (hex next.c) (adds_both v.so_far (plus_before i) v.adds a) (subst (λ (c : ℕ). Adds p (hex c) q) is.0 b);
            split = split_next l.width w;
            fits = v.fits;
          }

  pub done : length row ≤ i → (cs : Word) → Encodes row cs → Adds old (spelt cs) page
  done h cs e =
      let all : v.so_far ≡ spelt cs = sym (append-nil v.so_far) ∙ ap (λ (w : Word). v.so_far ++ to_write i w) (sym (ahead.none_left v.to h)) ∙ sym v.split ∙ ap spelt (ahead.only v.to cs e) in
      subst (λ (t : List ℕ). Adds old t page) all v.adds
