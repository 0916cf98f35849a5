-- The lines of item 5: the last letter, and then the others. Assumes nothing.
use mathlib.Core.Path.{◌≡◌, refl, sym, subst}
use mathlib.Core.List.{List}
use Prim.Native.Nat.{ℕ, ◌-◌}
use native.Mathlib.Omega.{arith}
use lib.ListN.{length, take, drop, length-drop}
use lib.Seq.{take_all}
use Rattle.std.specs.Prelude.{Option as Maybe}
use Rattle.definition.specs.Words.{Word}
use Rattle.definition.specs.Tables.{A_1, A_2}
use Rattle.utf8.specs.Spelt.{Encodes}
use Rattle.history.specs.Steps.{normalize_post_last, normalize_post_other, name, table_of}
use Rattle.history.specs.History.{last_of, but_last, keys_in, post_deeds}
use Rattle.story.specs.declared.page.Page.{Page}
use Rattle.story.specs.Telling.{Tells, Fits, puts_for, KeysOf}
use Rattle.story.proofs.Lines.{tells_both, fits_first, fits_second}

-- a text from the byte r to its end
pub to_end : (text : List ℕ) (r : ℕ) (w : Word) → Encodes (drop r text) w → Encodes (take (length text - r) (drop r text)) w
to_end text r w e = subst (λ (t : List ℕ). Encodes t w) (sym (take_all (length text - r) (drop r text) (omega (arith, length-drop r text)))) e

-- ---- of the word w in two parts, answered for by answers
module _ {answers : ℕ → Maybe ℕ → Type 0} {p : Page} (w : Word) (f : Fits p (post_deeds w)) where
  pub last_keys : (text : List ℕ) → Encodes text (last_of w) → ((c : ℕ) (r : Maybe ℕ) → answers c r → r ≡ puts_for normalize_post_last c) → (step_name : List ℕ) → step_name ≡ name normalize_post_last
      → KeysOf answers step_name text p normalize_post_last (last_of w)
  unfolding post_deeds table_of A_1
  last_keys text e a n q = record { one = refl; puts = a; named = q; encodes = e; fits = fits_first (keys_in normalize_post_last (last_of w)) (keys_in normalize_post_other (but_last w)) p f }

  pub other_keys : (q : Page) → Tells p (keys_in normalize_post_last (last_of w)) q → (text : List ℕ) → Encodes text (but_last w) → ((c : ℕ) (r : Maybe ℕ) → answers c r → r ≡ puts_for normalize_post_other c)
      → (step_name : List ℕ) → step_name ≡ name normalize_post_other → KeysOf answers step_name text q normalize_post_other (but_last w)
  unfolding post_deeds table_of A_2
  other_keys q t text e a n h =
      record { one = refl; puts = a; named = h; encodes = e; fits = fits_second (keys_in normalize_post_last (last_of w)) (keys_in normalize_post_other (but_last w)) p f q t }

pub post_told : (w : Word) (p q r : Page) → Tells p (keys_in normalize_post_last (last_of w)) q → Tells q (keys_in normalize_post_other (but_last w)) r → Tells p (post_deeds w) r
unfolding post_deeds
post_told w p q r = tells_both (keys_in normalize_post_last (last_of w)) (keys_in normalize_post_other (but_last w))
