-- An accepted word without its floating marks: the word itself or what is taken out of it, and a word again. Assumes nothing.
use mathlib.Core.Path.{◌≡◌, sym, ap, ◌∙◌, subst}
use mathlib.Core.Bool.{Bool, true, false, not}
use mathlib.Core.List.{List}
use Prim.Native.Nat.{ℕ, ◌≤◌}
use native.Mathlib.Omega.{arith}
use lib.ListN.{length, take}
use borrow.Author.Tests.{not-false}
use Rattle.std.specs.Prelude.{Ok}
use Rattle.utf8.specs.Utf8.{Scalars, encode}
use Rattle.utf8.specs.Spelt.{Encodes, Spelt}
use Rattle.definition.specs.Words.{Word}
use Rattle.definition.specs.Floating.{unmarked, without_marks, no_mark}
use Rattle.definition.proofs.Main.{main_free_unmarked}
use Rattle.utf8.specs.Beside.{at_letters}
use Rattle.definition.specs.Stem.{stem}
use Rattle.places.specs.Places.{Typed, typed, letters_of, places_of, marks_out, stem_places, places}
use Rattle.places.proofs.Lists.{typed-letters, typed_unmarked, typed-starts, none_out}
use Rattle.snowball.specs.declared.env.Env.{Env}
use Rattle.snowball.specs.Chars.{started, fresh}
use Rattle.snowball.specs.Stands.{work_size, Standing, Stands}
use Rattle.arabic.specs.Texts.{typed_text}
use Rattle.floating_marks.specs.Marked.{TakenOut}
use Rattle.floating_marks.proofs.Sizes.{unmarked-scalars, unmarked-size}
use Rattle.stemmer.specs.Entries.{most_bytes, letters, bytes_of, checked}
use Rattle.stemmer.proofs.Answers.{short, scalars, spelling}

module _ (word : List ℕ) (e : checked word ≡ Ok tt) where
  spells : Encodes word (letters word)
  spells = (scalars word e, spelling word e)

  pub spelt : Spelt word
  spelt = record { word = letters word; encodes = spells }

  pub itself : (m : Bool) → ((cs : Word) → Encodes word cs → m ≡ not (no_mark cs)) → m ≡ false → word ≡ bytes_of unmarked word
  unfolding bytes_of
  itself m h f =
      let n : no_mark (letters word) ≡ true = not-false (no_mark (letters word)) (sym (h (letters word) spells) ∙ f) in
      spelling word e ∙ ap encode (sym (main_free_unmarked (letters word) n))

  pub without_scalars : Scalars (unmarked (letters word))
  without_scalars = unmarked-scalars (letters word) (scalars word e)

  pub without_short : length (bytes_of unmarked word) ≤ most_bytes
  unfolding bytes_of
  without_short = omega (arith, unmarked-size (letters word), ap length (spelling word e), short word e)

  pub unmarked_short : (bytes : List ℕ) → bytes ≡ bytes_of unmarked word → length bytes ≤ most_bytes
  unmarked_short bytes h = omega (arith, ap length h, without_short)

  pub without_spelt : (bytes : List ℕ) → bytes ≡ bytes_of unmarked word → Encodes bytes (unmarked (letters word))
  unfolding bytes_of
  without_spelt bytes h = (without_scalars, h)

  pub unmarked_spelt : (bytes : List ℕ) → bytes ≡ bytes_of unmarked word → Spelt bytes
  unmarked_spelt bytes h = record { word = unmarked (letters word); encodes = without_spelt bytes h }

  pub taken : (new : List ℕ) (n : ℕ) → (places : List ℕ) → ((cs : Word) → Encodes word cs → TakenOut cs new places n) → (n ≤ length new) × (take n new ≡ bytes_of unmarked word)
  unfolding bytes_of
  taken new n places h = let t = h (letters word) spells in (t.within, t.bytes)

  pub taken_short : (new : List ℕ) (n : ℕ) (places : List ℕ) → ((cs : Word) → Encodes word cs → TakenOut cs new places n) → n ≤ most_bytes
  unfolding bytes_of
  taken_short new n places h = omega (arith, (h (letters word) spells).sized, without_short)

  -- ---- environments: the typed letters with their places, and those that are left
  pub typed_stands : (e : Env) → Stands e (fresh (letters word)) → Stands e (typed_text (typed (letters word)))
  typed_stands e s = subst (Stands e) (λ i. started (sym (typed-letters (letters word)) i) (sym (typed-starts (letters word)) i)) s

  -- no mark
  pub all_left : (m : Bool) → ((cs : Word) → Encodes word cs → m ≡ not (no_mark cs)) → m ≡ false → (e : Env) → Stands e (fresh (letters word)) → Stands e (typed_text (marks_out (typed (letters word))))
  all_left m h f e s =
      let n : no_mark (letters word) ≡ true = not-false (no_mark (letters word)) (sym (h (letters word) spells) ∙ f) in
      subst (λ (ts : List Typed). Stands e (typed_text ts)) (sym (none_out (typed (letters word)) (ap no_mark (typed-letters (letters word)) ∙ n))) (typed_stands e s)

  -- the marks are taken out of the environment's arrays
  pub some_left : (new places : List ℕ) (n cursor back : ℕ) → ((cs : Word) → Encodes word cs → TakenOut cs new places n) → n ≤ work_size → cursor ≡ 0 → back ≡ 0
      → Standing new places n cursor back (typed_text (marks_out (typed (letters word))))
  unfolding encode
  some_left new places n cursor back h room z y =
      let t = h (letters word) spells in
      let l : letters_of (marks_out (typed (letters word))) ≡ unmarked (letters word) = typed_unmarked (letters word) in
      record {
        scalars = subst Scalars (sym l) without_scalars;
        bytes = t.bytes ∙ ap encode (sym l);
        sized = t.sized ∙ ap (λ (w : Word). length (encode w)) (sym l);
        within = room;
        placed = ap (λ (w : Word). at_letters w places) l ∙ t.placed;
        cursor = (omega arith, z);
        back = (omega arith, y);
      }

-- ---- what is made of the letters that are left, and of all as they are typed
pub left-work : (f : Word → Word) (w : Word) (e : Env) (ps : List ℕ) → Stands e (started (f (letters_of (marks_out (typed w)))) ps) → Stands e (started (without_marks f w) ps)
left-work f w e ps s = subst (λ (v : Word). Stands e (started (f v) ps)) (typed_unmarked w) s

pub left-stem : (w : Word) (e : Env) → Stands e (started (stem (letters_of (marks_out (typed w)))) (stem_places (marks_out (typed w)))) → Stands e (started (without_marks stem w) (places w))
unfolding places
left-stem w e s = left-work stem w e _ s

pub typed-text : (w : Word) (e : Env) → Stands e (typed_text (typed w)) → Stands e (started w (places_of (typed w)))
typed-text w e s = subst (λ (v : Word). Stands e (started v (places_of (typed w)))) (typed-letters w) s
