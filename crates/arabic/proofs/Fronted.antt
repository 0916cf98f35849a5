-- The steps that replace a front: one law over the table, the guards and the replacements. Assumes nothing.
use mathlib.Core.Path.{◌≡◌, refl, sym, ap, ◌∙◌, subst}
use mathlib.Core.Bool.{Bool, true, false}
use mathlib.Core.List.{List, [], ◌∷◌, ◌++◌, append_assoc, append-nil}
use mathlib.Core.Option.{Option, none, some}
use Prim.Native.Nat.{ℕ, zero, suc, ◌+◌, ◌-◌, ◌*◌, ◌^◌, ◌≤◌, ◌<◌}
use native.Mathlib.Omega.{arith}
use lib.Dec.{leb}
use Rattle.std.specs.Prelude.{map, Option as Maybe, Some, None, Result, Ok, Err}
use Rattle.std.specs.Bool.{then_some}
use Rattle.std.specs.Borrow.{Bor}
use lib.ListN.{length, take, drop, get_or, length-append, length-map, get_or-map}
use lib.Seq.{take-append-add, drop-append-add, drop-append_seam, take-append_seam}
use borrow.Author.Tests.{leb-true}
use Rattle.definition.specs.Words.{Word, pick, both, every, same, begins_with}
use Rattle.definition.specs.Tables.{Row, A_4, A_5, A_6, A_7, A_8, A_9}
use Rattle.definition.specs.Search.{row_at, longest, met, taken}
use Rattle.definition.specs.Fronts.{PrefixStep, prefix_step1, prefix_step2, prefix_step3a_noun, prefix_step3b_noun, prefix_step3_verb, prefix_step4_verb, prefix, replacements, not_at, Applied, at, front_row, replacement, Fronting, text, passing, headed, change, begins_with_any, apply_by, apply_unless, apply, started}
use Rattle.definition.specs.StepRow.{of_front, step_row}
use Rattle.definition.proofs.StepRow.{row_ended, row_searched}
use Rattle.definition.proofs.Match.{by, by_le, both_0, both_1, same_eq, begins_split}
use Rattle.definition.proofs.Found.{taken_some, all_at}
use Rattle.definition.proofs.FrontRows.{replaced_by}
use Rattle.utf8.specs.Utf8.{Scalars, encode, encode1}
use Rattle.utf8.specs.Places.{size, At}
use Rattle.utf8.specs.Beside.{widths}
use Rattle.utf8.specs.Spelt.{Encodes, Spelt}
use Rattle.utf8.proofs.Text.{scalars_right}
use Rattle.utf8.proofs.Places.{drop-size, size-append}
use Rattle.snowball.specs.declared.env.Env.{Env}
use Rattle.snowball.specs.declared.among.Found.{Found}
use Rattle.snowball.specs.Rows.{low}
use Rattle.snowball.specs.Search.{Ahead}
use Rattle.snowball.specs.Cut.{replaced, moved}
use Rattle.snowball.specs.Match.{stands_at}
use Rattle.snowball.specs.Chars.{Chars, with_cursor, AsWide, slice_from}
use Rattle.snowball.specs.Stands.{work_size, most_changes, Standing, Stands}
use Rattle.snowball.proofs.Cut.{moved-behind}
use Rattle.snowball.proofs.Answers.{low-scalars}
use Rattle.snowball.proofs.Match.{stands-inside, stands-end, place_match}
use Rattle.snowball.proofs.Places.{place-within}
use Rattle.snowball.proofs.Standing.{cursor-within, with_cursor_lem, stands-letters}
use Rattle.arabic.specs.declared.tried.Searched.{Searched}
use Rattle.arabic.specs.declared.prefix_halves.TakenRow.{TakenRow}
use Rattle.arabic.specs.Tried.{Answers}
use Rattle.arabic.specs.Changes.{prefix_number, front_number, front_numbers, Noted, with_change}
use Rattle.arabic.specs.Fronts.{cursor_of, front_places, at_front, HeadPlaced, AtFront, GivesText, taken_by, Takes, encoded, Puts, InPlace, ChangesInPlace}
use Rattle.arabic.proofs.FrontPlaces.{passing-places, level-places}
use Rattle.arabic.proofs.Guarded.{taken_is, taken_longest, some_none, some-same}
use Rattle.arabic.proofs.Noting.{in_order-length, noted_more, noted_same, IsNoted, prefix_noted, is_noted}

-- ---- the row that is taken: b says whether the row's guard is met
pub takes : (s : PrefixStep) (t rest : Word) (at : ℕ) (f : Found) → Ahead (prefix s).table rest at f → (b : Bool) → b ≡ met (prefix s).guards f.class (length t)
    → Takes s t rest at (record { row = f.row; outcome = then_some b (record { class = f.class; cursor = f.cursor }) })
takes s t rest at f a b e = record { row = a.finds.row; taken = found b ∙ sym (ap (taken_by s at) (taken_is (begins_with rest) (prefix s) (length t) f.class a.finds.class b e)) }
  where
    found : (b : Bool) → then_some b (record { class = f.class; cursor = f.cursor }) ≡ taken_by s at (pick b (some (longest (begins_with rest) (prefix s).table)) none)
    found true = λ i. Some (record { class = a.finds.class i; cursor = a.cursor i })
    found false = refl

-- ---- a test of every step's rows: the row has letters and a class that is listed, and what is put for it is as wide as the row's last letters
abbrev is_fitting_row : PrefixStep → Row → Bool
is_fitting_row s k =
    both (leb 1 (length k.letters))
    (both (leb 1 k.class)
    (both (leb k.class (length (replacements s)))
    (both (low (replaced_by s k))
    (both (leb (length (replaced_by s k)) (length k.letters))
    (both (leb (size (replaced_by s k)) (size k.letters))
    (same (widths (drop (length k.letters - length (replaced_by s k)) k.letters)) (widths (replaced_by s k))))))))

rows_fit : (s : PrefixStep) → every (is_fitting_row s) (prefix s).table ≡ true
unfolding prefix replacements A_4 A_5 A_6 A_7 A_8 A_9 encode encode1 same
rows_fit prefix_step1 = refl
rows_fit prefix_step2 = refl
rows_fit prefix_step3a_noun = refl
rows_fit prefix_step3b_noun = refl
rows_fit prefix_step3_verb = refl
rows_fit prefix_step4_verb = refl

pub record RowFits (s : PrefixStep) (k : Row) : Type 0 where
  letters : 1 ≤ length k.letters
  class : 1 ≤ k.class
  listed : k.class ≤ length (replacements s)
  scalars : Scalars (replaced_by s k)
  pub fewer : length (replaced_by s k) ≤ length k.letters
  shorter : size (replaced_by s k) ≤ size k.letters
  wide : widths (drop (length k.letters - length (replaced_by s k)) k.letters) ≡ widths (replaced_by s k)

pub row_fits : (s : PrefixStep) (r : ℕ) → r < length (prefix s).table → RowFits s (row_at (prefix s).table r)
row_fits s r h =
    let k : Row = row_at (prefix s).table r in
    let e = all_at (is_fitting_row s) (prefix s).table (rows_fit s) r h in
    let e1 = both_1 (leb 1 (length k.letters)) _ e in
    let e2 = both_1 (leb 1 k.class) _ e1 in
    let e3 = both_1 (leb k.class (length (replacements s))) _ e2 in
    let e4 = both_1 (low (replaced_by s k)) _ e3 in
    let e5 = both_1 (leb (length (replaced_by s k)) (length k.letters)) _ e4 in
    record {
      letters = leb-true 1 (length k.letters) (both_0 _ _ e);
      class = leb-true 1 k.class (both_0 _ _ e1);
      listed = leb-true k.class (length (replacements s)) (both_0 _ _ e2);
      scalars = low-scalars (replaced_by s k) (both_0 (low (replaced_by s k)) _ e3);
      fewer = leb-true (length (replaced_by s k)) (length k.letters) (both_0 _ _ e4);
      shorter = leb-true (size (replaced_by s k)) (size k.letters) (both_0 _ _ e5);
      wide = same_eq _ _ (both_1 (leb (size (replaced_by s k)) (size k.letters)) _ e5);
    }

-- ---- rows of replacements
encoded-length : (ws : List Word) → length (encoded ws) ≡ length ws
encoded-length [] = refl
encoded-length (w ∷ ws) = ap suc (encoded-length ws)

encoded_at : (ws : List Word) (k : ℕ) → k < length ws → get_or (encoded ws) k [] ≡ encode (get_or ws k [])
encoded_at [] k h = absurd (omega arith)
encoded_at (w ∷ ws) zero h = refl
encoded_at (w ∷ ws) (suc k) h = encoded_at ws k (omega arith)

-- the bytes behind the reference that is put, k being the number of its class
pub put_is : (puts : List (Bor (List ℕ))) (k c : ℕ) (d : Bor (List ℕ)) → d.now ≡ [] → k ≡ c → (get_or puts k d).now ≡ get_or (map (λ (b : Bor (List ℕ)). b.now) puts) c []
put_is puts k c d e q = sym (get_or-map (λ (b : Bor (List ℕ)). b.now) puts k d) ∙ (λ i. get_or (map (λ (b : Bor (List ℕ)). b.now) puts) (q i) (e i))

-- ---- an environment at the front
module _ (x : Env) (ps : List ℕ) (w : Fronting) (st : Stands x (at_front ps w)) where
  split : text w ≡ (w.head_letter ++ w.passed) ++ w.rest
  split = sym (append_assoc w.head_letter w.passed w.rest)

  rest_is : drop (cursor_of w) (text w) ≡ w.rest
  rest_is = ap (drop (cursor_of w)) split ∙ drop-append_seam (w.head_letter ++ w.passed) w.rest

  text-length : length (text w) ≡ cursor_of w + length w.rest
  text-length = ap length split ∙ length-append (w.head_letter ++ w.passed) w.rest

  front_fits : (x.cursor ≤ x.limit) × (x.limit ≤ work_size)
  front_fits = (cursor-within x (at_front ps w) st, st.within)

  rest-scalars : Scalars w.rest
  rest-scalars = scalars_right (w.head_letter ++ w.passed) w.rest (subst Scalars split st.scalars)

  rest-bytes : drop x.cursor (take x.limit x.current) ≡ encode w.rest
  rest-bytes =
      (λ i. drop (st.cursor.1 i) (st.bytes i))
      ∙ drop-size (text w) (cursor_of w)
      ∙ ap encode rest_is

  -- the text in bytes, as the search reads it
  module _ (t : List ℕ) (p : t ≡ take x.limit x.current) where
    pub whole_text : Encodes t (text w)
    whole_text = (st.scalars, p ∙ st.bytes)

    pub rest_text : Encodes (drop x.cursor t) w.rest
    rest_text = (rest-scalars, ap (drop x.cursor) p ∙ rest-bytes)

    pub text_fits : Spelt t × (x.cursor ≤ length t)
    text_fits = (record { word = text w; encodes = whole_text }, omega (arith, ap length p, ap length st.bytes, st.sized, front_fits.0))

  -- a text at which the step fails: what holds of it, holds behind the step
  pub barred : (S F : Env → Fronting → Type 0) → F x w → (s : PrefixStep) → begins_with_any w.rest (not_at s) ≡ true
      → Answers S F (Err x) (apply s w) × (length (prefix s).table ≡ step_row (of_front s) w.rest)
  unfolding apply
  barred S F f s h = (subst (Answers S F (Err x)) (sym (ap (λ (b : Bool). apply_unless b s w) h)) f, sym (row_ended (of_front s) w.rest h))

  -- a key before the rest, as the code looks for it
  pub looks : (t : List ℕ) → t ≡ take x.limit x.current → (key : List ℕ) (c : ℕ) (cs : Word) → low (c ∷ cs) ≡ true → key ≡ encode (c ∷ cs)
      → stands_at t x.cursor key ≡ begins_with w.rest (c ∷ cs)
  looks t p key c cs l k =
      ap (λ (b : List ℕ). stands_at b x.cursor key) p
      ∙ stands-letters x (at_front ps w) st key (c ∷ cs) (low-scalars (c ∷ cs) l) k
      ∙ by_le (length (text w)) (cursor_of w)
      (λ h. stands-end (text w) (cursor_of w) (c ∷ cs) h ∙ sym (not_there w.rest (omega (arith, text-length))))
      (λ h. stands-inside (text w) (cursor_of w) (c ∷ cs) h ∙ ap (λ (r : Word). begins_with r (c ∷ cs)) rest_is)
    where
      not_there : (r : Word) → length r ≡ 0 → begins_with r (c ∷ cs) ≡ false
      not_there r e = by (begins_with r (c ∷ cs)) (λ h. absurd (omega (arith, ap length (begins_split r (c ∷ cs) h), length-append (c ∷ cs) (drop (length (c ∷ cs)) r)))) (λ h. h)

-- ---- the texts at which a step fails
pub any_here : (w k : Word) (ks : List Word) → begins_with w k ≡ true → begins_with_any w (k ∷ ks) ≡ true
any_here w k ks h = ap (λ (b : Bool). pick b true (begins_with_any w ks)) h

pub any_next : (w k : Word) (ks : List Word) → begins_with w k ≡ false → begins_with_any w (k ∷ ks) ≡ begins_with_any w ks
any_next w k ks h = ap (λ (b : Bool). pick b true (begins_with_any w ks)) h

-- ---- what a step changes
changed_is : (s : PrefixStep) (f : Fronting) (m : Applied) → ((change s f m).applied ≡ m ∷ f.applied) × ((change s f m).rest ≡ drop (length (front_row m)) f.rest)
unfolding change
changed_is prefix_step1 f m = (refl, refl)
changed_is prefix_step2 f m = (refl, refl)
changed_is prefix_step3a_noun f m = (refl, refl)
changed_is prefix_step3b_noun f m = (refl, refl)
changed_is prefix_step3_verb f m = (refl, refl)
changed_is prefix_step4_verb f m = (refl, refl)

-- ---- the replacement
module _ (s : PrefixStep) (ps : List ℕ) (w : Fronting) (x : Env) (st : AtFront ps x w) where
  -- the row of the search is the step's
  pub row_is : (f : Searched (Maybe TakenRow)) → Takes s (text w) w.rest x.cursor f → begins_with_any w.rest (not_at s) ≡ false → f.row ≡ step_row (of_front s) w.rest
  row_is f tk nb = tk.row ∙ sym (row_searched (of_front s) w.rest nb)

  apply_is : begins_with_any w.rest (not_at s) ≡ false → (o : Option ℕ) → taken (begins_with w.rest) (prefix s) (length (text w)) ≡ o → apply_by s w o ≡ apply s w
  unfolding apply
  apply_is nb o q = ap (apply_by s w) (sym q) ∙ sym (ap (λ (b : Bool). apply_unless b s w) nb)

  -- no row: the step fails
  pub not_replaced : None ≡ taken_by s x.cursor (taken (begins_with w.rest) (prefix s) (length (text w))) → begins_with_any w.rest (not_at s) ≡ false → GivesText ps (Err x) (apply s w)
  not_replaced h nb = go (taken (begins_with w.rest) (prefix s) (length (text w))) refl
    where
      go : (o : Option ℕ) → taken (begins_with w.rest) (prefix s) (length (text w)) ≡ o → GivesText ps (Err x) (apply s w)
      go none q = subst (GivesText ps (Err x)) (apply_is nb none q) st
      go (some r) q = absurd (some_none (sym (h ∙ ap (taken_by s x.cursor) q)))

  -- a row is taken: g is what was found
  module _ (g : Searched (Maybe TakenRow)) (tk : Takes s (text w) w.rest x.cursor g) (f : TakenRow) (found : g.outcome ≡ Some f) where
    row-taken : (r : ℕ) × (taken (begins_with w.rest) (prefix s) (length (text w)) ≡ some r)
    row-taken = go (taken (begins_with w.rest) (prefix s) (length (text w))) refl
      where
        go : (o : Option ℕ) → taken (begins_with w.rest) (prefix s) (length (text w)) ≡ o → (r : ℕ) × (taken (begins_with w.rest) (prefix s) (length (text w)) ≡ some r)
        go none q = absurd (some_none (sym found ∙ tk.taken ∙ ap (taken_by s x.cursor) q))
        go (some r) q = (r, q)

    module _ (r : ℕ) (q : taken (begins_with w.rest) (prefix s) (length (text w)) ≡ some r) where
      abbrev key : Row
      key = row_at (prefix s).table r

      fit : RowFits s (row_at (prefix s).table r)
      fit = row_fits s r (taken_some (begins_with w.rest) (prefix s) (length (text w)) r q).inside

      taken-same : f ≡ record { class = (row_at (prefix s).table r).class; cursor = x.cursor + size (row_at (prefix s).table r).letters }
      taken-same = some-same (sym found ∙ tk.taken ∙ ap (taken_by s x.cursor) q)

      class_is : f.class ≡ (row_at (prefix s).table r).class
      class_is = ap (λ (t : TakenRow). t.class) taken-same

      cursor_is : f.cursor ≡ x.cursor + size (row_at (prefix s).table r).letters
      cursor_is = ap (λ (t : TakenRow). t.cursor) taken-same

      rest_split : w.rest ≡ key.letters ++ drop (length key.letters) w.rest
      rest_split = begins_split w.rest key.letters (taken_some (begins_with w.rest) (prefix s) (length (text w)) r q).matches

      place : At (text w) (cursor_of w + length (row_at (prefix s).table r).letters) f.cursor
      place =
          let h : cursor_of w < length (text w) =
          omega (arith, text-length x ps w st.stands, fit.letters, ap length rest_split, length-append key.letters (drop (length key.letters) w.rest)) in
          let m : stands_at (text w) (cursor_of w) key.letters ≡ true =
          stands-inside (text w) (cursor_of w) key.letters h ∙ ap (λ (z : Word). begins_with z key.letters) (rest_is x ps w st.stands)
          ∙ (taken_some (begins_with w.rest) (prefix s) (length (text w)) r q).matches in
          subst (At (text w) (cursor_of w + length key.letters)) (sym cursor_is) (place_match (text w) key.letters (cursor_of w) x.cursor st.stands.cursor m)

      is : IsNoted (prefix_number s) (prefix s).table r
      is = is_noted (prefix_number s) (prefix s).table (prefix_noted s) r (taken_some (begins_with w.rest) (prefix s) (length (text w)) r q).inside

      rest-size : size w.rest ≡ size key.letters + size (drop (length key.letters) w.rest)
      rest-size = ap size rest_split ∙ size-append key.letters (drop (length key.letters) w.rest)

      row-number : g.row ≡ r
      row-number = tk.row ∙ taken_longest (begins_with w.rest) (prefix s) (length (text w)) r q

    -- the change can be noted
    module _ (step : ℕ) (first : step ≡ 16 * prefix_number s) where
      pub can_note : (x.made < most_changes) × (step + g.row < 2 ^ 8)
      can_note =
          let r = row-taken in
          let n = is r.0 r.1 in
          (omega (arith, st.noted.made ∙ in_order-length front_number w.applied, st.room, rest-size r.0 r.1, n.two_bytes), omega (arith, n.byte, row-number r.0 r.1))

      -- and is noted in z
      pub noted_in : length x.changes ≡ most_changes → (z : Env) → z ≡ with_change x (step + g.row) → Noted z (front_numbers w.applied ++ ((step + g.row) ∷ []))
      noted_in l z e = subst (λ (y : Env). Noted y (front_numbers w.applied ++ ((step + g.row) ∷ []))) (sym e) (noted_more x (front_numbers w.applied) (step + g.row) (omega (arith, l, can_note.0)) st.noted)

    -- the class is one that is listed
    pub some_class : 1 ≤ f.class
    some_class = let r = row-taken in omega (arith, (fit r.0 r.1).class, class_is r.0 r.1)

    module _ (puts : List (Bor (List ℕ))) (pe : Puts s puts) where
      pub in_puts : f.class - 1 < length puts
      in_puts =
          let r = row-taken in
          let a : length puts ≡ length (replacements s) = sym (length-map puts (λ (b : Bor (List ℕ)). b.now)) ∙ ap length pe ∙ encoded-length (replacements s) in
          omega (arith, (fit r.0 r.1).class, (fit r.0 r.1).listed, class_is r.0 r.1)

      -- put is the bytes that are put
      module _ (put : List ℕ) (pp : put ≡ get_or (map (λ (b : Bor (List ℕ)). b.now) puts) (f.class - 1) []) where
        new_bytes : put ≡ encode (get_or (replacements s) (f.class - 1) [])
        new_bytes =
            let r = row-taken in
            pp ∙ ap (λ (ws : List (List ℕ)). get_or ws (f.class - 1) []) pe ∙ encoded_at (replacements s) (f.class - 1) (omega (arith, (fit r.0 r.1).class, (fit r.0 r.1).listed, class_is r.0 r.1))

        abbrev behind : ℕ → ℕ
        behind r = cursor_of w + length (row_at (prefix s).table r).letters

        -- e, in which the cursor is behind the row, stands for the text
        abbrev StandsBehind : Env → Chars → Type 0
        StandsBehind e c = Standing e.current e.places e.limit f.cursor e.limit_backward c

        stands-behind : (r : ℕ) (q : taken (begins_with w.rest) (prefix s) (length (text w)) ≡ some r) → StandsBehind x (with_cursor (at_front ps w) (behind r))
        stands-behind r q = with_cursor_lem x (at_front ps w) st.stands (behind r) f.cursor (place r q)

        -- the change n is noted
        module _ (n : ℕ) (z : Env) (noting : z ≡ with_change x n) where
          pub can_slice : ((c : Chars) × StandsBehind z c) × ((z.cursor + length put ≤ f.cursor) × (f.cursor ≤ z.limit))
          unfolding encode
          can_slice =
              let r : ℕ = row-taken.0 in
              let q = row-taken.1 in
              let u : f.cursor ≤ x.limit = omega (arith, place-within (text w) (behind r) f.cursor (place r q), st.stands.sized) in
              let l : length put ≡ size (get_or (replacements s) ((row_at (prefix s).table r).class - 1) []) =
              ap length new_bytes ∙ ap (λ (c : ℕ). size (get_or (replacements s) (c - 1) [])) (class_is r q) in
              subst (λ (e : Env). ((c : Chars) × StandsBehind e c) × ((e.cursor + length put ≤ f.cursor) × (f.cursor ≤ e.limit))) (sym noting)
              ((with_cursor (at_front ps w) (behind r), stands-behind r q), (omega (arith, cursor_is r q, (fit r q).shorter), u))

        -- what slice_from promises of y, where it gets e with the cursor behind the row
        abbrev SlicedBehind : Env → Env → Type 0
        SlicedBehind e y = (cs : List ℕ) → Scalars cs → put ≡ encode cs → (c : Chars) → StandsBehind e c → (b k : ℕ) → At c.text b e.cursor → At c.text k f.cursor → c.back ≤ b → AsWide c.text b k cs
            → Stands y (slice_from c b k cs)

        module _ (nb : begins_with_any w.rest (not_at s) ≡ false) (ch : ChangesInPlace ps s w) (y : Env) where
          wide-cut : (r : ℕ) (q : taken (begins_with w.rest) (prefix s) (length (text w)) ≡ some r) → AsWide (text w) (cursor_of w) (behind r) (replacement (at s r))
          unfolding front_row replacement
          wide-cut r q =
              let key : Word = (row_at (prefix s).table r).letters in
              let cs : Word = replacement (at s r) in
              let a : Word = w.head_letter ++ w.passed in
              let more : Word = drop (length key) w.rest in
              let k : behind r - length cs ≡ cursor_of w + (length key - length cs) = omega (arith, (fit r q).fewer) in
              let cut : take (behind r) (text w) ≡ a ++ key =
              (λ i. take (cursor_of w + length key) ((split x ps w st.stands ∙ ap (λ (z : Word). a ++ z) (rest_split r q)) i))
              ∙ take-append-add a (key ++ more) (length key) ∙ ap (λ (z : Word). a ++ z) (take-append_seam key more) in (
                omega (arith, (fit r q).fewer),
                (λ i. widths (drop (k i) (cut i))) ∙ ap widths (drop-append-add a key (length key - length cs)) ∙ (fit r q).wide,
              )

          stands-changed : SlicedBehind x y → (r : ℕ) (q : taken (begins_with w.rest) (prefix s) (length (text w)) ≡ some r) → Stands y (at_front ps (change s w (at s r)))
          unfolding front_row replacement
          stands-changed sl r q =
              let m : Applied = at s r in
              let cs : Word = replacement m in
              let p = ch r q in
              let e : put ≡ encode cs = new_bytes ∙ ap (λ (c : ℕ). encode (get_or (replacements s) (c - 1) [])) (class_is r q) in
              let v = sl cs (fit r q).scalars e (with_cursor (at_front ps w) (behind r)) (stands-behind r q) (cursor_of w) (behind r) st.stands.cursor (place r q) (omega arith) (wide-cut r q) in
              let mv : moved (behind r) (cursor_of w) (behind r) (length cs) ≡ cursor_of (change s w m) =
              sym (moved-behind (behind r) (cursor_of w) (behind r) (length cs) (omega arith))
              ∙ (let z : behind r - (behind r - cursor_of w) + length cs ≡ cursor_of w + length cs = omega arith in z) ∙ p.cursor in
              subst (Stands y) (λ i. record { text = p.text i; places = p.places i; cursor = mv i; back = 0 }) v

          -- z is the environment in which the change is noted
          pub is_replaced : (step : ℕ) → step ≡ 16 * prefix_number s → length x.changes ≡ most_changes → (z : Env) → z ≡ with_change x (step + g.row)
              → SlicedBehind z y → y.made ≡ z.made → y.changes ≡ z.changes → GivesText ps (Ok y) (apply s w)
          unfolding front_row
          is_replaced step first l z e sl made changes =
              let r : ℕ = row-taken.0 in
              let q = row-taken.1 in
              let c = changed_is s w (at s r) in
              let number : step + g.row ≡ front_number (at s r) = omega (arith, row-number r q) in
              subst (GivesText ps (Ok y)) (apply_is nb (some r) q)
              (record {
                stands = stands-changed (subst (λ (z : Env). SlicedBehind z y) e sl) r q;
                noted = subst (Noted y) (ap (λ (n : ℕ). front_numbers w.applied ++ (n ∷ [])) number ∙ ap front_numbers (sym c.0)) (noted_same z y _ made changes (noted_in step first l z e));
                room = omega (arith, ap length c.0, ap size c.1, rest-size r q, (is r q).two_bytes, st.room);
              })

-- ---- what the steps make of a text
-- every step but Step1 passes what it puts
passing_in_place : (ps : List ℕ) (f : Fronting) (m : Applied)
    → replaced (front_places ps f) (cursor_of f) (cursor_of f + length (front_row m) - length (replacement m)) [] ≡ front_places ps (passing f m) → InPlace ps f m (passing f m)
passing_in_place ps f m e = record {
  places = e;
  text =
      (λ i. take (cursor_of f) (before i) ++ replacement m ++ drop (cursor_of f + length (front_row m)) (before i))
      ∙ (λ i. take-append_seam (f.head_letter ++ f.passed) f.rest i ++ replacement m ++ drop-append-add (f.head_letter ++ f.passed) f.rest (length (front_row m)) i)
      ∙ ap (λ (x : Word). x ++ drop (length (front_row m)) f.rest) (append_assoc f.head_letter f.passed (replacement m))
      ∙ append_assoc f.head_letter (f.passed ++ replacement m) (drop (length (front_row m)) f.rest);
  cursor = sym (ap length (sym (append_assoc f.head_letter f.passed (replacement m))) ∙ length-append (f.head_letter ++ f.passed) (replacement m));
}
  where
    before : text f ≡ (f.head_letter ++ f.passed) ++ f.rest
    before = sym (append_assoc f.head_letter f.passed f.rest)

-- where nothing is passed
pub unpassed_in_place : (s : PrefixStep) (ps : List ℕ) (f : Fronting) → HeadPlaced ps f → f.passed ≡ []
    → (r : ℕ) → taken (begins_with f.rest) (prefix s) (length (text f)) ≡ some r → InPlace ps f (at s r) (passing f (at s r))
unfolding front_row replacement
unpassed_in_place s ps f h u r q =
    passing_in_place ps f (at s r) (passing-places ps f (at s r) h u (row_fits s r (taken_some (begins_with f.rest) (prefix s) (length (text f)) r q).inside).fewer)

-- where as many letters are put as the row has
pub level_in_place : (s : PrefixStep) (ps : List ℕ) (f : Fronting) → HeadPlaced ps f → ((r : ℕ) → r < length (prefix s).table → length (replacement (at s r)) ≡ length (front_row (at s r)))
    → (r : ℕ) → taken (begins_with f.rest) (prefix s) (length (text f)) ≡ some r → InPlace ps f (at s r) (passing f (at s r))
level_in_place s ps f h e r q =
    passing_in_place ps f (at s r) (level-places ps f (at s r) h (e r (taken_some (begins_with f.rest) (prefix s) (length (text f)) r q).inside))

-- Step1, at the start
pub headed_in_place : (ps : List ℕ) (w : Word) (m : Applied)
    → replaced (front_places ps (started w)) (cursor_of (started w)) (cursor_of (started w) + length (front_row m) - length (replacement m)) [] ≡ front_places ps (headed (started w) m)
    → InPlace ps (started w) m (headed (started w) m)
unfolding started
headed_in_place ps w m e = record {
  places = e;
  text = let z : 0 + length (front_row m) ≡ length (front_row m) = omega arith in ap (λ (n : ℕ). replacement m ++ drop n w) z;
  cursor = let z : 0 + length (replacement m) ≡ length (replacement m) = omega arith in z ∙ sym (ap length (append-nil (replacement m)));
}

-- ---- what holds behind a step: where it fails, of the state before it, and where it succeeds, of what it has changed
pub holds_behind : (S F : Env → Fronting → Type 0) (s : PrefixStep) (ps : List ℕ) (w : Fronting)
    → ((e : Env) → AtFront ps e w → F e w)
    → ((r : ℕ) → taken (begins_with w.rest) (prefix s) (length (text w)) ≡ some r → (e : Env) → AtFront ps e (change s w (at s r)) → S e (change s w (at s r)))
    → (t : Result Env Env) → GivesText ps t (apply s w) → Answers S F t (apply s w)
unfolding apply
holds_behind S F s ps w f d t g = bar (begins_with_any w.rest (not_at s)) t g
  where
    row : (o : Option ℕ) → taken (begins_with w.rest) (prefix s) (length (text w)) ≡ o → (t : Result Env Env) → GivesText ps t (apply_by s w o) → Answers S F t (apply_by s w o)
    row none q (Ok e) h = absurd h
    row none q (Err e) h = f e h
    row (some r) q (Ok e) h = d r q e h
    row (some r) q (Err e) h = absurd h

    bar : (b : Bool) (t : Result Env Env) → GivesText ps t (apply_unless b s w) → Answers S F t (apply_unless b s w)
    bar true (Ok e) h = absurd h
    bar true (Err e) h = f e h
    bar false t h = row (taken (begins_with w.rest) (prefix s) (length (text w))) refl t h
