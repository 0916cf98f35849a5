-- What each step of item 4 gives, with the places: the steps that pass what they put, and Step1. Assumes nothing.
use mathlib.Core.Logic.{◌≢◌}
use mathlib.Core.Path.{◌≡◌, refl, sym, ap, ◌∙◌, subst}
use mathlib.Core.Bool.{Bool, true, false}
use mathlib.Core.List.{List, [], ◌∷◌, ◌++◌}
use mathlib.Core.Option.{Option, none, some}
use Prim.Native.Nat.{ℕ, zero, suc, ◌+◌, ◌≤◌, ◌<◌}
use native.Mathlib.Omega.{arith}
use lib.Dec.{eqb}
use lib.ListN.{length, take, drop, get_or, set, length-append, get_or-append}
use lib.Seq.{get_or-set_same, get_or-set_other, get_or-drop, drop-drop, drop-set-lt}
use borrow.Author.Tests.{eqb-true}
use Rattle.std.specs.Prelude.{Option as Maybe, Result, Ok, Err}
use Rattle.definition.specs.Words.{Word, pick, both, every, same, begins_with}
use Rattle.definition.specs.Tables.{Row, A_4, A_9}
use Rattle.definition.specs.Search.{row_at, taken}
use Rattle.definition.specs.Fronts.{PrefixStep, prefix_step1, prefix_step2, prefix_step4_verb, prefix, replacements, not_at, Applied, at, front_row, replacement, Fronting, text, passing, headed, change, apply_by, apply, started}
use Rattle.definition.specs.Tries.{done}
use Rattle.definition.proofs.Match.{both_0, both_1, clash, begins_split}
use Rattle.definition.proofs.Found.{taken_some, all_at}
use Rattle.definition.proofs.FrontRows.{replaced_by}
use Rattle.places.specs.Places.{head_from}
use Rattle.snowball.specs.declared.env.Env.{Env}
use Rattle.snowball.specs.Stands.{Stands}
use Rattle.utf8.specs.Utf8.{encode1, encode}
use Rattle.utf8.specs.Beside.{at_letters}
use Rattle.utf8.proofs.Text.{encode1_pos}
use Rattle.utf8.proofs.Beside.{at_letters-length}
use Rattle.arabic.specs.declared.tried.Searched.{Searched}
use Rattle.arabic.specs.declared.prefix_halves.TakenRow.{TakenRow}
use Rattle.arabic.specs.Fronts.{cursor_of, front_places, taken_by, Takes, FirstKept, HeadPlaced, AtFront, Passed, Fronts, GivesFront, GivesThird, GivesPassed, GivesText, InPlace}
use Rattle.arabic.proofs.FrontPlaces.{passing_placed, start_placed, headed-places, headed_placed}
use Rattle.arabic.proofs.Fronted.{unpassed_in_place, level_in_place, headed_in_place, holds_behind}

-- ---- a step that passes what it puts
module _ (s : PrefixStep) (ps : List ℕ) (w : Fronting) (is : (m : Applied) → change s w m ≡ passing w m) (p : HeadPlaced ps w) where
  placed_behind : (m : Applied) → HeadPlaced ps (change s w m)
  placed_behind m = subst (HeadPlaced ps) (sym (is m)) (passing_placed ps w m p)

  -- Step3's: what it puts is passed
  pub third : w.passed ≡ [] → (t : Result Env Env) → GivesText ps t (apply s w) → GivesThird ps t (apply s w)
  third u = holds_behind (Passed ps) (Fronts ps) s ps w
      (λ e h. record { state = h; placed = p; unpassed = u })
      (λ r q e h. record { state = h; placed = placed_behind (at s r) })

  -- Step4_Verb
  pub fourth : (t : Result Env Env) → GivesText ps t (apply s w) → GivesPassed ps t (apply s w)
  fourth = holds_behind (Passed ps) (Passed ps) s ps w
      (λ e h. record { state = h; placed = p })
      (λ r q e h. record { state = h; placed = placed_behind (at s r) })

  -- Step2 puts nothing
  pub second : w.passed ≡ [] → ((r : ℕ) → replacement (at s r) ≡ []) → (t : Result Env Env) → GivesText ps t (apply s w) → GivesFront ps t (apply s w)
  second u empty = holds_behind (Fronts ps) (Fronts ps) s ps w
      (λ e h. record { state = h; placed = p; unpassed = u })
      (λ r q e h. record {
        state = h;
        placed = placed_behind (at s r);
        unpassed = ap (λ (f : Fronting). f.passed) (is (at s r)) ∙ (λ i. u i ++ empty r i);
      })

  pub unpassed_changes : w.passed ≡ [] → (r : ℕ) → taken (begins_with w.rest) (prefix s) (length (text w)) ≡ some r → InPlace ps w (at s r) (change s w (at s r))
  unpassed_changes u r q = subst (InPlace ps w (at s r)) (sym (is (at s r))) (unpassed_in_place s ps w p u r q)

  pub level_changes : ((r : ℕ) → r < length (prefix s).table → length (replacement (at s r)) ≡ length (front_row (at s r)))
      → (r : ℕ) → taken (begins_with w.rest) (prefix s) (length (text w)) ≡ some r → InPlace ps w (at s r) (change s w (at s r))
  level_changes e r q = subst (InPlace ps w (at s r)) (sym (is (at s r))) (level_in_place s ps w p e r q)

-- ---- what the rows put
no_words : List Word
no_words = [] ∷ [] ∷ []

none_put : (k : ℕ) → get_or no_words k [] ≡ []
unfolding no_words
none_put zero = refl
none_put (suc zero) = refl
none_put (suc (suc k)) = refl

pub step2_puts_none : (r : ℕ) → replacement (at prefix_step2 r) ≡ []
unfolding replacement replacements no_words
step2_puts_none r = none_put _

abbrev is_level : Row → Bool
is_level k = eqb (length (replaced_by prefix_step4_verb k)) (length k.letters)

level_rows : every is_level (prefix prefix_step4_verb).table ≡ true
unfolding prefix replacements A_9
level_rows = refl

pub step4_level : (r : ℕ) → r < length (prefix prefix_step4_verb).table → length (replacement (at prefix_step4_verb r)) ≡ length (front_row (at prefix_step4_verb r))
unfolding front_row replacement
step4_level r h = eqb-true (length (replacement (at prefix_step4_verb r))) (length (front_row (at prefix_step4_verb r))) (all_at is_level (prefix prefix_step4_verb).table level_rows r h)

-- ---- Step1: of the row's two letters one is put, with the place of the second, and only with class 3 with that of the first
abbrev is_head_row : Row → Bool
is_head_row k =
    both (eqb (length k.letters) 2)
    (both (eqb (length (encode1 (get_or k.letters 0 0))) 2)
    (both (eqb (length (replaced_by prefix_step1 k)) 1)
    (eqb (head_from k.letters) (pick (eqb k.class 3) 0 1))))

head_rows : every is_head_row (prefix prefix_step1).table ≡ true
unfolding prefix replacements A_4 same begins_with head_from encode1
head_rows = refl

record HeadRow (r : ℕ) : Type 0 where
  two : length (front_row (at prefix_step1 r)) ≡ 2
  wide : length (encode1 (get_or (front_row (at prefix_step1 r)) 0 0)) ≡ 2
  one : length (replacement (at prefix_step1 r)) ≡ 1
  from : head_from (front_row (at prefix_step1 r)) ≡ pick (eqb (row_at (prefix prefix_step1).table r).class 3) 0 1

head_row : (r : ℕ) → r < length (prefix prefix_step1).table → HeadRow r
unfolding front_row replacement
head_row r h =
    let k : Row = row_at (prefix prefix_step1).table r in
    let e = all_at is_head_row (prefix prefix_step1).table head_rows r h in
    let e1 = both_1 (eqb (length k.letters) 2) _ e in
    let e2 = both_1 (eqb (length (encode1 (get_or k.letters 0 0))) 2) _ e1 in
    record {
      two = eqb-true (length k.letters) 2 (both_0 _ _ e);
      wide = eqb-true (length (encode1 (get_or k.letters 0 0))) 2 (both_0 _ _ e1);
      one = eqb-true (length (replaced_by prefix_step1 k)) 1 (both_0 _ _ e2);
      from = eqb-true (head_from k.letters) (pick (eqb k.class 3) 0 1) (both_1 (eqb (length (replaced_by prefix_step1 k)) 1) _ e2);
    }

-- the places where the second letter has been lent that of the first
abbrev pub lent : List ℕ → List ℕ
lent ps = get_or ps 0 0 ∷ get_or ps 0 0 ∷ drop 2 ps

lend_two : (ps : List ℕ) → 2 < length ps → (c d : ℕ) (v : Word) → length (encode1 c) ≡ 2 → at_letters (c ∷ d ∷ v) (set ps (0 + 2) (get_or ps 0 0)) ≡ lent (at_letters (c ∷ d ∷ v) ps)
unfolding at_letters
lend_two ps h c d v e =
    let p : ℕ = get_or ps 0 0 in
    let n : ℕ = length (encode1 c) in
    let m : ℕ = length (encode1 d) in
    let two : 0 + 2 ≡ 2 = omega arith in
    let set_two : set ps (0 + 2) p ≡ set ps 2 p = ap (λ (k : ℕ). set ps k p) two in
    let z : n + 0 ≡ 2 = omega (arith, e) in
    let far : 2 < n + m = omega (arith, e, encode1_pos d) in
    let apart : 0 ≢ 2 = omega arith in
    ap (at_letters (c ∷ d ∷ v)) set_two
    ∙ (λ i. get_or-set_other ps 2 0 p 0 apart i
    ∷ (get_or-drop n (set ps 2 p) 0 0 ∙ ap (λ (k : ℕ). get_or (set ps 2 p) k 0) z ∙ get_or-set_same ps 2 p 0 h) i
    ∷ at_letters v ((drop-drop m n (set ps 2 p) ∙ drop-set-lt (n + m) ps 2 p far ∙ sym (drop-drop m n ps)) i))

lend_word : (ps : List ℕ) → 2 < length ps → (w : Word) → 2 ≤ length w → length (encode1 (get_or w 0 0)) ≡ 2 → at_letters w (set ps (0 + 2) (get_or ps 0 0)) ≡ lent (at_letters w ps)
lend_word ps h [] l e = absurd (omega arith)
lend_word ps h (c ∷ []) l e = absurd (omega arith)
lend_word ps h (c ∷ d ∷ v) l e = lend_two ps h c d v e

module _ (w : Word) (ps : List ℕ) (x : Env) (st : AtFront ps x (started w)) where
  places-length : length ps ≡ length w
  unfolding started
  places-length = ap length (sym st.stands.placed) ∙ at_letters-length w x.places

  pub at_front_zero : x.cursor ≡ 0
  unfolding started encode
  at_front_zero = st.stands.cursor.1

  -- the row r is taken
  module _ (r : ℕ) (q : taken (begins_with w) (prefix prefix_step1) (length w) ≡ some r) where
    row : HeadRow r
    row = head_row r (taken_some (begins_with w) (prefix prefix_step1) (length w) r q).inside

    word_split : w ≡ front_row (at prefix_step1 r) ++ drop (length (front_row (at prefix_step1 r))) w
    unfolding front_row
    word_split = begins_split w (front_row (at prefix_step1 r)) (taken_some (begins_with w) (prefix prefix_step1) (length w) r q).matches

    enough : 2 ≤ length ps
    enough = omega (arith, row.two, places-length, ap length word_split, length-append (front_row (at prefix_step1 r)) (drop (length (front_row (at prefix_step1 r))) w))

    headed_holds : (e : Env) → AtFront ps e (headed (started w) (at prefix_step1 r)) → Fronts ps e (headed (started w) (at prefix_step1 r))
    unfolding started
    headed_holds e h = record { state = h; placed = headed_placed ps w (at prefix_step1 r) row.two row.one enough; unpassed = refl }

    changes_if : (qs : List ℕ) → 2 ≤ length qs → (head_from (front_row (at prefix_step1 r)) ≡ 0 → get_or qs 0 0 ≡ get_or qs 1 0) → InPlace qs (started w) (at prefix_step1 r) (headed (started w) (at prefix_step1 r))
    changes_if qs l e = headed_in_place qs w (at prefix_step1 r) (headed-places qs w (at prefix_step1 r) row.two row.one l e)

  -- f is what the search found, and b whether it is that of class 3
  module _ (f : Searched (Maybe TakenRow)) (tk : Takes prefix_step1 w w x.cursor f) (b : Bool) (m : FirstKept f.outcome b) where
    lends_by : (o : Option ℕ) → taken (begins_with w) (prefix prefix_step1) (length w) ≡ o → FirstKept (taken_by prefix_step1 x.cursor o) b
    lends_by o q = subst (λ (t : Maybe TakenRow). FirstKept t b) (tk.taken ∙ ap (taken_by prefix_step1 x.cursor) q) m

    -- the second keeps its place
    pub unlent_changes : b ≡ false → (r : ℕ) → taken (begins_with w) (prefix prefix_step1) (length w) ≡ some r → InPlace ps (started w) (at prefix_step1 r) (headed (started w) (at prefix_step1 r))
    unlent_changes e r q =
        changes_if r q ps (enough r q)
        (λ z. let k = (row r q).from ∙ ap (λ (c : Bool). pick c 0 1) (sym (lends_by (some r) q) ∙ e) in absurd (omega (arith, z, k)))

    pub unlent : (t : Result Env Env) → GivesText ps t (apply prefix_step1 (started w)) → GivesFront ps t (apply prefix_step1 (started w))
    unfolding started change
    unlent = holds_behind (Fronts ps) (Fronts ps) prefix_step1 ps (started w)
        (λ e h. record { state = h; placed = start_placed ps w; unpassed = refl })
        (λ r q e h. headed_holds r q e h)

    -- the first keeps its place
    module _ (e : b ≡ true) where
      taken_row : (r : ℕ) × (taken (begins_with w) (prefix prefix_step1) (length w) ≡ some r)
      taken_row = go (taken (begins_with w) (prefix prefix_step1) (length w)) refl
        where
          go : (o : Option ℕ) → taken (begins_with w) (prefix prefix_step1) (length w) ≡ o → (r : ℕ) × (taken (begins_with w) (prefix prefix_step1) (length w) ≡ some r)
          go none q = absurd (clash e (lends_by none q))
          go (some r) q = (r, q)

      from_first : (r : ℕ) (q : taken (begins_with w) (prefix prefix_step1) (length w) ≡ some r) → head_from (front_row (at prefix_step1 r)) ≡ 0
      from_first r q = (row r q).from ∙ ap (λ (c : Bool). pick c 0 1) (sym (lends_by (some r) q) ∙ e)

      -- the environment in which the place is lent
      module _ (wide : 2 < length x.places) where
        lent-placed : at_letters w (set x.places (x.cursor + 2) (get_or x.places x.cursor 0)) ≡ lent ps
        unfolding started
        lent-placed =
            let r : ℕ = taken_row.0 in
            let q = taken_row.1 in
            let first : get_or w 0 0 ≡ get_or (front_row (at prefix_step1 r)) 0 0 =
            ap (λ (v : Word). get_or v 0 0) (word_split r q) ∙ get_or-append (front_row (at prefix_step1 r)) (drop (length (front_row (at prefix_step1 r))) w) 0 0 (omega (arith, (row r q).two)) in
            ap (λ (n : ℕ). at_letters w (set x.places (n + 2) (get_or x.places n 0))) at_front_zero
            ∙ lend_word x.places wide w (omega (arith, enough r q, places-length)) (ap (λ (c : ℕ). length (encode1 c)) first ∙ (row r q).wide)
            ∙ ap lent st.stands.placed

        pub lent_state : AtFront (lent ps) (record { cursor = x.cursor; limit = x.limit; limit_backward = x.limit_backward; bra = x.bra; ket = x.ket; made = x.made; current = x.current; places = set x.places (x.cursor + 2) (get_or x.places x.cursor 0); changes = x.changes }) (started w)
        unfolding started
        lent_state = record {
          stands = record { scalars = st.stands.scalars; bytes = st.stands.bytes; sized = st.stands.sized; within = st.stands.within; placed = lent-placed; cursor = st.stands.cursor; back = st.stands.back };
          noted = record { made = st.noted.made; changes = st.noted.changes };
          room = st.room;
        }

      pub lent_changes : (r : ℕ) → taken (begins_with w) (prefix prefix_step1) (length w) ≡ some r → InPlace (lent ps) (started w) (at prefix_step1 r) (headed (started w) (at prefix_step1 r))
      lent_changes r q = changes_if r q (lent ps) (omega arith) (λ z. refl)

      same_places : (r : ℕ) (q : taken (begins_with w) (prefix prefix_step1) (length w) ≡ some r) → front_places (lent ps) (headed (started w) (at prefix_step1 r)) ≡ front_places ps (headed (started w) (at prefix_step1 r))
      unfolding started
      same_places r q =
          let h = from_first r q in
          let m : Applied = at prefix_step1 r in
          (λ i. take ((row r q).one i) (drop (h i) (lent ps)) ++ drop ((row r q).two i) (lent ps))
          ∙ two_of ps (enough r q)
          ∙ (λ i. take (sym (row r q).one i) (drop (sym h i) ps) ++ drop (sym (row r q).two i) ps)
        where
          two_of : (l : List ℕ) → 2 ≤ length l → get_or l 0 0 ∷ drop 2 l ≡ take 1 l ++ drop 2 l
          two_of [] h = absurd (omega arith)
          two_of (p ∷ l) h = refl

      pub lent_gives : (t : Result Env Env) → GivesText (lent ps) t (apply prefix_step1 (started w)) → GivesFront ps t (apply prefix_step1 (started w))
      unfolding started change not_at apply
      lent_gives t g =
          let r = taken_row.0 in
          let q = taken_row.1 in
          let is : done (headed (started w) (at prefix_step1 r)) ≡ apply prefix_step1 (started w) = ap (apply_by prefix_step1 (started w)) (sym q) in
          subst (GivesFront ps t) is (go t (subst (GivesText (lent ps) t) (sym is) g))
        where
          go : (t : Result Env Env) → GivesText (lent ps) t (done (headed (started w) (at prefix_step1 taken_row.0))) → GivesFront ps t (done (headed (started w) (at prefix_step1 taken_row.0)))
          go (Ok y) h =
              headed_holds taken_row.0 taken_row.1 y
              (record {
                stands =
                    subst (λ (l : List ℕ). Stands y (record { text = text (headed (started w) (at prefix_step1 taken_row.0)); places = l; cursor = cursor_of (headed (started w) (at prefix_step1 taken_row.0)); back = 0 }))
                    (same_places taken_row.0 taken_row.1) h.stands;
                noted = h.noted;
                room = h.room;
              })
          go (Err y) h = absurd h
