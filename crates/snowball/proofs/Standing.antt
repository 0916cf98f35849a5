-- A new environment, and what the functions that move the cursor do to the letters that an environment stands for. Assumes nothing.
use mathlib.Core.Path.{◌≡◌, sym, ap, ◌∙◌}
use Prim.Native.Nat.{ℕ, ◌+◌, ◌-◌, ◌≤◌, ◌<◌}
use mathlib.Core.Bool.{true, false}
use mathlib.Core.List.{List}
use native.Mathlib.Omega.{arith}
use lib.ListN.{length, take, get_or}
use lib.Seq.{take-length}
use Rattle.utf8.specs.Utf8.{Scalars, encode}
use Rattle.utf8.specs.Places.{size, starts, At, NextStart, LastStart}
use Rattle.utf8.proofs.Places.{next_place, last-place}
use Rattle.utf8.proofs.Beside.{numbered_in_turn}
use Rattle.snowball.specs.Match.{stands_at}
use Rattle.snowball.specs.Chars.{Chars, with_cursor, fresh, eq_s}
use Rattle.snowball.specs.Stands.{work_size, Standing, Stands}
use Rattle.snowball.specs.Bytes.{Created}
use Rattle.snowball.specs.declared.env.Env.{Env}
use Rattle.snowball.proofs.Places.{place-within, place_inside, place_after, first-starts}
use Rattle.snowball.proofs.Match.{stands-encode, place_match}

-- ---- a new environment

pub created : (word : List ℕ) (r : Env) (cs : List ℕ) → Created word r → length word ≤ work_size → Scalars cs → word ≡ encode cs → Stands r (fresh cs)
unfolding encode
created word r cs c h sc e =
    record {
      scalars = sc;
      bytes = c.bytes ∙ e;
      sized = c.limit ∙ ap length e;
      within = omega (arith, c.limit);
      placed = numbered_in_turn cs r.places 0 (λ k l. c.places k (omega (arith, ap length e)) ∙ (let z : k ≡ 0 + k = omega arith in z));
      cursor = (omega arith, c.cursor);
      back = (omega arith, c.limit_backward);
    }

-- ---- the cursor

module _ (e : Env) (s : Chars) (st : Stands e s) where
  pub cursor-within : e.cursor ≤ e.limit
  cursor-within = omega (arith, st.sized, place-within s.text s.cursor e.cursor st.cursor)

  -- e with its cursor at another place of the text
  pub with_cursor_lem : (n i : ℕ) → At s.text n i → Standing e.current e.places e.limit i e.limit_backward (with_cursor s n)
  with_cursor_lem n i p =
      record { scalars = st.scalars; bytes = st.bytes; sized = st.sized; within = st.within; placed = st.placed; cursor = p; back = st.back }

  -- the cursor moved over a letter of the text that `text` gives
  module _ (text : List ℕ) (t : text ≡ take e.limit e.current) where
    pub encoded : text ≡ encode s.text
    encoded = t ∙ st.bytes

    all-encoded : take (length text) text ≡ encode s.text
    all-encoded = take-length text ∙ encoded

    pub text-length : length text ≡ e.limit
    text-length = ap length encoded ∙ sym st.sized

    pub next_stands : (r : ℕ) → e.cursor < e.limit → NextStart text (length text) e.cursor r
        → Standing e.current e.places e.limit r e.limit_backward (with_cursor s (s.cursor + 1))
    next_stands r h f =
        let i : s.cursor < length s.text = place_inside s.text s.cursor e.cursor st.cursor (omega (arith, st.sized)) in
        with_cursor_lem (s.cursor + 1) r
        (next_place text s.text (length text) all-encoded (ap length encoded) e.cursor r s.cursor f st.cursor i)

    module _ (h : 0 < e.cursor) where
      pub first-start : starts (get_or text 0 0) ≡ true
      first-start = first-starts text s.text s.cursor e.cursor encoded st.cursor h

      pub previous_stands : (r : ℕ) → LastStart text e.cursor r → Standing e.current e.places e.limit r e.limit_backward (with_cursor s (s.cursor - 1))
      previous_stands r f =
          with_cursor_lem (s.cursor - 1) r
          (last-place text s.text (length text) all-encoded (ap length encoded) e.cursor r s.cursor f st.cursor
          (place_after s.text s.cursor e.cursor st.cursor h))

  -- a key at the cursor, on bytes and on letters
  module _ (key cs : List ℕ) (sc : Scalars cs) (k : key ≡ encode cs) where
    pub stands-letters : stands_at (take e.limit e.current) e.cursor key ≡ stands_at s.text s.cursor cs
    stands-letters =
        (λ i. stands_at (st.bytes i) e.cursor (k i)) ∙ stands-encode s.text cs s.cursor e.cursor st.cursor st.scalars sc

    -- the same of the text that `text` gives
    module _ (text : List ℕ) (t : text ≡ take e.limit e.current) where
      pub stands-text : stands_at text e.cursor key ≡ stands_at s.text s.cursor cs
      stands-text = ap (λ (x : List ℕ). stands_at x e.cursor key) t ∙ stands-letters

      pub eq_found : stands_at text e.cursor key ≡ true → (true ≡ stands_at s.text s.cursor cs)
          × Standing e.current e.places e.limit (e.cursor + length key) e.limit_backward (eq_s s cs)
      eq_found y =
          let v : stands_at s.text s.cursor cs ≡ true = sym stands-text ∙ y in (
            sym v,
            rw (v, k) (with_cursor_lem (s.cursor + length cs) (e.cursor + size cs) (place_match s.text cs s.cursor e.cursor st.cursor v)),
          )

      pub eq_missed : stands_at text e.cursor key ≡ false → (false ≡ stands_at s.text s.cursor cs) × Stands e (eq_s s cs)
      eq_missed y = let v : stands_at s.text s.cursor cs ≡ false = sym stands-text ∙ y in (sym v, rw v st)
