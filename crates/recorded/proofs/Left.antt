-- What a front leaves is ready for the next one, also where letters are passed: those in front of the cursor are taken as the head letter of
-- another front, with the same text, the same places and the same changes. Assumes nothing.
use mathlib.Core.Path.{◌≡◌, refl, sym, ap, ◌∙◌, subst}
use mathlib.Core.List.{List, [], ◌∷◌, ◌++◌, append-nil, append_assoc}
use Prim.Native.Nat.{ℕ, zero, suc, ◌*◌}
use native.Mathlib.Omega.{arith}
use lib.ListN.{length, take, drop, replicate, length-append, length-replicate, take-append-drop}
use lib.Seq.{length-take-le, take_at, drop_at}
use Rattle.std.specs.Prelude.{Result, Ok, Err}
use Rattle.definition.specs.Letters.{alef_hamza_above, waw_hamza}
use Rattle.definition.specs.Words.{Word, same, begins_with}
use Rattle.definition.specs.Tries.{Try, done, failed}
use Rattle.definition.specs.Fronts.{PrefixStep, Fronting, text, apply}
use Rattle.places.specs.Places.{head_from}
use Rattle.utf8.proofs.Beside.{at_letters-length}
use Rattle.snowball.specs.declared.env.Env.{Env}
use Rattle.snowball.specs.Chars.{Chars}
use Rattle.snowball.specs.Stands.{Stands}
use Rattle.arabic.specs.Tried.{Answers}
use Rattle.arabic.specs.Fronts.{cursor_of, front_places, at_front, AtFront, ReadyFront, Passed, Fronts, GivesFront, GivesThird, GivesText}

-- ---- a front of twice as many letters, of whose first two the first keeps its place
seen : ℕ → Word
seen zero = []
seen (suc j) = alef_hamza_above ∷ waw_hamza ∷ replicate (2 * j) 0

seen-length : (k : ℕ) → length (seen k) ≡ 2 * k
unfolding seen
seen-length zero = refl
seen-length (suc j) = omega (arith, length-replicate {A = ℕ} (2 * j) 0)

seen-head : (k : ℕ) (p : List ℕ) → take k (drop (head_from (seen k)) p) ≡ take k p
unfolding head_from begins_with same seen
seen-head zero p = refl
seen-head (suc j) p = refl

module _ (ps : List ℕ) (f : Fronting) where
  abbrev left : Fronting
  left = record { front = seen (cursor_of f); head_letter = f.head_letter ++ f.passed; passed = []; rest = f.rest; applied = f.applied }

  abbrev kept : List ℕ
  kept = take (cursor_of f) (front_places ps f)

  abbrev spread : List ℕ
  spread = kept ++ (replicate (cursor_of f) 0 ++ drop (cursor_of f) (front_places ps f))

  module _ (e : Env) (st : AtFront ps e f) where
    kept-length : length kept ≡ cursor_of f
    kept-length =
        length-take-le (cursor_of f) (front_places ps f)
        (omega (
          arith,
          sym (ap length st.stands.placed) ∙ at_letters-length (text f) e.places,
          length-append f.head_letter f.passed,
          length-append f.head_letter (f.passed ++ f.rest),
          length-append f.passed f.rest,
        ))

    same_places : front_places ps f ≡ front_places spread left
    same_places =
        sym (take-append-drop (cursor_of f) (front_places ps f))
        ∙ (λ i. sym (seen-head (cursor_of f) spread ∙ take_at kept (replicate (cursor_of f) 0 ++ drop (cursor_of f) (front_places ps f)) (cursor_of f) kept-length) i
        ++ sym (ap (λ (l : List ℕ). drop (length (seen (cursor_of f))) l) (sym (append_assoc kept (replicate (cursor_of f) 0) (drop (cursor_of f) (front_places ps f))))
        ∙ drop_at (kept ++ replicate (cursor_of f) 0) (drop (cursor_of f) (front_places ps f)) (length (seen (cursor_of f)))
        (omega (arith, length-append kept (replicate (cursor_of f) 0), kept-length, length-replicate {A = ℕ} (cursor_of f) 0, seen-length (cursor_of f)))) i)

    same_chars : at_front ps f ≡ at_front spread left
    same_chars i =
        record {
          text = sym (append_assoc f.head_letter f.passed f.rest) i;
          places = same_places i;
          cursor = length (sym (append-nil (f.head_letter ++ f.passed)) i);
          back = 0;
        }

    pub ready_again : ReadyFront e
    ready_again = (
      left,
      (
        spread,
        record {
          state = record { stands = subst (λ (s : Chars). Stands e s) same_chars st.stands; noted = st.noted; room = st.room };
          placed = record {
            head = ap length (seen-head (cursor_of f) spread) ∙ ap length (take_at kept (replicate (cursor_of f) 0 ++ drop (cursor_of f) (front_places ps f)) (cursor_of f) kept-length) ∙ kept-length;
            two = omega (arith, seen-length (cursor_of f));
          };
          unpassed = refl;
        },
      ),
    )

-- ---- whatever a step gives, it gives the text
answers_text : (ps : List ℕ) (S F : Env → Fronting → Type 0) → ((e : Env) (f : Fronting) → S e f → AtFront ps e f) → ((e : Env) (f : Fronting) → F e f → AtFront ps e f)
    → (t : Result Env Env) (y : Try Fronting) → Answers S F t y → GivesText ps t y
answers_text ps S F a b (Ok e) (done f) h = a e f h
answers_text ps S F a b (Ok e) (failed f) h = h
answers_text ps S F a b (Err e) (done f) h = h
answers_text ps S F a b (Err e) (failed f) h = b e f h

-- a step's outcome is some text with places and changes, which is all that the next one's environment is made of
abbrev pub Left : Result Env Env → Type 0
Left t = (ps : List ℕ) × ((y : Try Fronting) × GivesText ps t y)

pub front_left : (ps : List ℕ) (t : Result Env Env) (y : Try Fronting) → GivesFront ps t y → Left t
front_left ps t y g = (ps, (y, answers_text ps (Fronts ps) (Fronts ps) (λ e f h. h.state) (λ e f h. h.state) t y g))

third_left : (ps : List ℕ) (t : Result Env Env) (y : Try Fronting) → GivesThird ps t y → Left t
third_left ps t y g = (ps, (y, answers_text ps (Passed ps) (Fronts ps) (λ e f h. h.state) (λ e f h. h.state) t y g))

-- of a step that promises this of every front that an environment stands for, on one that is ready
module _ (s : PrefixStep) (e : Env) (r : ReadyFront e) (t : Result Env Env) (R : Fronting → Type 0) where
  pub behind_front : ((ps : List ℕ) (w : Fronting) → Fronts ps e w → GivesFront ps t (apply s w) × R w) → Left t
  behind_front h = front_left r.1.0 t (apply s r.0) (h r.1.0 r.0 r.1.1).0

  pub behind_third : ((ps : List ℕ) (w : Fronting) → Fronts ps e w → GivesThird ps t (apply s w) × R w) → Left t
  behind_third h = third_left r.1.0 t (apply s r.0) (h r.1.0 r.0 r.1.1).0
