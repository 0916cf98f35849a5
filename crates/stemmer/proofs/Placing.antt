-- What the entry with places promises, from its answer and what it has written. Assumes nothing.
use mathlib.Core.Path.{◌≡◌, refl, sym, ap, ◌∙◌, subst}
use mathlib.Core.Bool.{Bool, true, false}
use mathlib.Core.Logic.{◌⊎◌, inl, inr}
use mathlib.Core.List.{List, ◌++◌}
use Prim.Native.Nat.{ℕ, ◌≤◌, ◌<◌}
use native.Mathlib.Omega.{arith}
use lib.Dec.{ltb}
use lib.ListN.{length, take, drop}
use lib.Seq.{take_at}
use borrow.Author.Tests.{lt-ltb, le-ltb}
use Rattle.std.specs.Prelude.{Result, Ok, Err, MatchResult, IsOkAnd}
use Rattle.utf8.specs.Utf8.{encode}
use Rattle.definition.specs.Words.{Word, pick}
use Rattle.definition.specs.Stem.{stem, chain}
use Rattle.definition.specs.Floating.{unmarked, without_marks}
use Rattle.definition.specs.Number.{FewEndings}
use Rattle.definition.proofs.Main.{main_number}
use Rattle.definition.proofs.Number.{none_few}
use Rattle.places.specs.Places.{places}
use Rattle.places.specs.Laws.{Placed}
use Rattle.places.proofs.Main.{main_places, main_fewer}
use Rattle.utf8.specs.Spelt.{Encodes}
use Rattle.utf8.specs.Beside.{at_letters}
use Rattle.utf8.proofs.Beside.{at_letters-length}
use Rattle.snowball.specs.declared.env.Env.{Env}
use Rattle.snowball.specs.Chars.{started}
use Rattle.snowball.specs.Stands.{work_size, Stands}
use Rattle.stemmer.specs.declared.outcome.Stem.{Stem}
use Rattle.stemmer.specs.declared.outcome.StemPlaces.{StemPlaces}
use Rattle.stemmer.specs.declared.outcome.BadWord.{BadWord}
use Rattle.stemmer.specs.declared.outcome.Refusal.{Refusal}
use Rattle.stemmer.specs.declared.outcome.Refusal.TheVariants.{Bad, NoRoom}
use Rattle.stemmer.specs.Entries.{Answer, code_of, most_bytes, enough_room, letters, bytes_of, checked, after_checks, fitting, out_after, Demand3After, FewEndingsOf, stem_bytes, stem_answer, with_endings}
use Rattle.stemmer.specs.Numbers.{stem_letters, fitting_both, places_answer, with_letters, places_entry, endings_in, numbers_after, PlacedAfter}
use Rattle.stemmer.proofs.Answers.{letters_are, refused_code, short, spelling, no_room, after, owed, number, StemPromised, numbered}

module _ (word old : List ℕ) (olds : List ℕ) where
  abbrev room : ℕ
  room = length old

  abbrev much : ℕ
  much = length olds

  abbrev kept : ℕ
  kept = length (stem_letters word)

  -- ---- the answer, by the outcome of the checks
  pub refused : (e : BadWord) → checked word ≡ Err e → places_answer word (length old) (length olds) ≡ Err (Bad e)
  unfolding places_answer
  refused e c = ap (λ (x : Result (Unit {0}) BadWord). after_checks x (fitting_both (length (stem_bytes word)) room kept much)) c

  pub too_few : checked word ≡ Ok tt → length olds < length (stem_letters word) → places_answer word (length old) (length olds) ≡ Err NoRoom
  unfolding places_answer fitting_both
  too_few c h =
      ap (λ (x : Result (Unit {0}) BadWord). after_checks x (fitting_both (length (stem_bytes word)) room kept much)) c
      ∙ ap (λ (b : Bool). pick b (Err NoRoom) (fitting (length (stem_bytes word)) room)) (lt-ltb much kept h)

  pub enough : checked word ≡ Ok tt → length (stem_letters word) ≤ length olds → places_answer word (length old) (length olds) ≡ fitting (length (stem_bytes word)) (length old)
  unfolding places_answer fitting_both
  enough c h =
      ap (λ (x : Result (Unit {0}) BadWord). after_checks x (fitting_both (length (stem_bytes word)) room kept much)) c
      ∙ ap (λ (b : Bool). pick b (Err NoRoom) (fitting (length (stem_bytes word)) room)) (le-ltb much kept h)

  -- ---- what an answer says
  ok_of : (c : Result (Unit {0}) BadWord) (b : Bool) (a : Answer) (n : ℕ) → after_checks c (pick b (Err NoRoom) a) ≡ Ok n → after_checks c a ≡ Ok n
  ok_of (Err e) b a n q = q
  ok_of (Ok u) true a n q = cc
  ok_of (Ok u) false a n q = q

  -- code 0: then the stem entry has the same answer
  stem-answer : (n : ℕ) → places_answer word room much ≡ Ok n → stem_answer word room ≡ Ok n
  unfolding places_answer fitting_both
  stem-answer n q =
      after (without_marks stem) word room (checked word) refl ∙ ok_of (checked word) (ltb much kept) (fitting (length (stem_bytes word)) room) n q

  -- a stem has no more letters than the word has bytes
  pub few_letters : checked word ≡ Ok tt → length (stem_letters word) ≤ most_bytes
  few_letters c = omega (arith, main_fewer (letters word), ap length (spelling word c), short word c)

  -- ---- the promises, from the answer a and what has been written
  abbrev pub PlacesPromised : Result StemPlaces Refusal → List ℕ → List ℕ → Type 0
  PlacesPromised r new news = record {
    value : r ≡ places_entry word (length old) (length olds);
    out_after : new ≡ out_after (places_answer word (length old) (length olds)) (stem_bytes word) old;
    numbers_after : news ≡ numbers_after (places_answer word (length old) (length olds)) (places (letters word)) olds;
    demand3after : Demand3After word (places_answer word (length old) (length olds)) new;
    placed_after : PlacedAfter word (code_of r) news;
    few_endings_of : FewEndingsOf word (endings_in r);
    room_bound : code_of r ≡ 3 → (length old < enough_room) ⊎ (length olds < most_bytes);
  }

  module _ (a : Answer) (is : a ≡ places_answer word (length old) (length olds)) (bound : code_of a ≡ 3 → (length old < enough_room) ⊎ (length olds < most_bytes))
      (new : List ℕ) (out : new ≡ out_after a (stem_bytes word) old) (news : List ℕ) (beside : news ≡ numbers_after a (places (letters word)) olds) where
    owed_of : (b : Answer) → a ≡ b → Demand3After word b new
    owed_of (Ok n) e =
        let q : stem_answer word room ≡ Ok n = stem-answer n (sym is ∙ e) in
        let same : Ok n ≡ stem_answer word room = sym q in
        owed word old new (Ok n)
        (record {
          value = same;
          out_after = out ∙ ap (λ (x : Answer). out_after x (stem_bytes word) old) (e ∙ same);
          out_len_bound = λ z. absurd (omega (arith, z));
        })
    owed_of (Err e) q = λ w d z. absurd (refused_code e z)

    placed_of : (b : Answer) → a ≡ b → (m k : ℕ) → PlacedAfter word (code_of (with_letters b m k)) news
    unfolding numbers_after
    placed_of (Ok n) e m k = λ w d z.
        let v : letters word ≡ w = letters_are word w d in
        let p = main_places w in
        subst (λ (ps : List ℕ). Placed w (without_marks stem w) ps)
        (sym (
        ap (take (length (without_marks stem w))) (beside ∙ ap (λ (x : Answer). numbers_after x (places (letters word)) olds) e ∙ ap (λ (x : Word). places x ++ drop (length (places x)) olds) v)
        ∙ take_at (places w) (drop (length (places w)) olds) (length (without_marks stem w)) p.size))
        p
    placed_of (Err e) q m k = λ w d z. absurd (refused_code e z)

    few_of : (b : Answer) (k : ℕ) (w : Word) → FewEndings (unmarked w) (length (without_marks chain w)) → FewEndings (unmarked w) (endings_in (with_letters b (length (without_marks chain w)) k))
    few_of (Ok n) k w h = h
    few_of (Err e) k w h = none_few (unmarked w)

    with_code : (b : Answer) (m k : ℕ) → code_of (with_letters b m k) ≡ code_of b
    with_code (Ok n) m k = refl
    with_code (Err e) m k = refl

    pub promised : (r : Result StemPlaces Refusal) → r ≡ with_letters a (number word) (length (stem_letters word)) → PlacesPromised r new news
    promised r q = record {
      value = q ∙ ap (λ (x : Answer). with_letters x (number word) kept) is;
      out_after = out ∙ ap (λ (x : Answer). out_after x (stem_bytes word) old) is;
      numbers_after = beside ∙ ap (λ (x : Answer). numbers_after x (places (letters word)) olds) is;
      demand3after = subst (λ (x : Answer). Demand3After word x new) is (owed_of a refl);
      placed_after = subst (λ (x : Result StemPlaces Refusal). PlacedAfter word (code_of x) news) (sym q) (placed_of a refl (number word) kept);
      few_endings_of = λ w d.
          subst (λ (x : Result StemPlaces Refusal). without_marks FewEndings w (endings_in x))
          (ap (λ (x : Word). with_letters a (length (without_marks chain x)) kept) (sym (letters_are word w d)) ∙ sym q)
          (few_of a kept w (main_number (unmarked w)));
      room_bound = λ z. bound (sym (ap (code_of {A = StemPlaces}) q ∙ with_code a (number word) kept) ∙ z);
    }

-- ---- an accepted word, whose stem the environment v stands for
module _ (word old olds : List ℕ) (c : checked word ≡ Ok tt) (v : Env) (st : Stands v (started (stem_letters word) (places (letters word))))
    (text : List ℕ) (t : text ≡ take v.limit v.current) where
  pub spells : Encodes text (stem_letters word)
  spells = (st.scalars, t ∙ st.bytes)

  bytes_are : text ≡ stem_bytes word
  unfolding bytes_of
  bytes_are = t ∙ st.bytes

  pub fits_beside : (beside : List ℕ) → length beside ≡ work_size → length text ≤ length beside
  fits_beside beside h = omega (arith, ap length (t ∙ st.bytes), st.sized, st.within)

  -- n letters are counted, and the buffer is too short for them
  pub unplaced : (n : ℕ) → ((cs : Word) → text ≡ encode cs → n ≡ length cs) → length olds < n → PlacesPromised word old olds (Err NoRoom) old olds
  unfolding out_after numbers_after
  unplaced n f h =
      let m : length olds < length (stem_letters word) = omega (arith, f (stem_letters word) (t ∙ st.bytes)) in
      promised word old olds (Err NoRoom) (sym (too_few word old olds c m)) (λ z. inr (omega (arith, few_letters word old olds c))) old refl olds refl (Err NoRoom) refl

  -- or long enough: a is the answer of the delivery
  module _ (n : ℕ) (f : (cs : Word) → text ≡ encode cs → n ≡ length cs) (h : n ≤ length olds) where
    pub counted : n ≡ length (stem_letters word)
    counted = f (stem_letters word) (t ∙ st.bytes)

    pub room_for : (cs : Word) → Encodes text cs → length cs ≤ length olds
    room_for cs e = omega (arith, f cs e.1)

    module _ (a : Answer) (is : a ≡ fitting (length text) (length old)) (new : List ℕ) (out : new ≡ out_after a text old) where
      answers : a ≡ places_answer word (length old) (length olds)
      answers = is ∙ ap (λ (bs : List ℕ). fitting (length bs) (length old)) bytes_are ∙ sym (enough word old olds c (omega (arith, counted)))

      lacking : code_of a ≡ 3 → (length old < enough_room) ⊎ (length olds < most_bytes)
      lacking z = inl (no_room (length text) (length old) (omega (arith, ap length (t ∙ st.bytes), st.sized, st.within)) (sym (ap (code_of {A = ℕ}) is) ∙ z))

      pub placed : (news : List ℕ) → news ≡ numbers_after a (places (letters word)) olds → (r : Result StemPlaces Refusal) → r ≡ with_letters a (number word) (length (stem_letters word)) → PlacesPromised word old olds r new news
      placed news b = promised word old olds a answers lacking new (out ∙ ap (λ (bs : List ℕ). out_after a bs old) bytes_are) news b

    -- what is written beside
    pub beside_is : (news : List ℕ) → ((cs : Word) → Encodes text cs → news ≡ at_letters cs v.places ++ drop (length cs) olds) → (k : ℕ) → news ≡ numbers_after (Ok k) (places (letters word)) olds
    unfolding numbers_after
    beside_is news w k =
        let l : length (stem_letters word) ≡ length (places (letters word)) = sym (at_letters-length (stem_letters word) v.places) ∙ ap length st.placed in
        w (stem_letters word) spells ∙ (λ i. st.placed i ++ drop (l i) olds)

-- ---- the stem entry: a buffer that is long enough for every word, and no places
module _ (word old olds : List ℕ) (long : length olds ≡ most_bytes) where
  plain_answer : places_answer word (length old) (length olds) ≡ stem_answer word (length old)
  plain_answer = go (checked word) refl
    where
      go : (c : Result (Unit {0}) BadWord) → checked word ≡ c → places_answer word (length old) (length olds) ≡ stem_answer word (length old)
      go (Err e) c = refused word old olds e c ∙ sym (after (without_marks stem) word (length old) (Err e) c)
      go (Ok u) c = enough word old olds c (omega (arith, few_letters word old olds c, long)) ∙ sym (after (without_marks stem) word (length old) (Ok u) c)

  -- q is what the entry with places answers, and r the same without the letters
  module _ (q : Result StemPlaces Refusal) (new news : List ℕ) (p : PlacesPromised word old olds q new news) where
    same-code : (a : Answer) → q ≡ with_letters a (number word) (length (stem_letters word)) → code_of a ≡ code_of q
    same-code (Ok n) e = sym (ap (code_of {A = StemPlaces}) e)
    same-code (Err x) e = sym (ap (code_of {A = StemPlaces}) e)

    answered : q ≡ with_letters (stem_answer word (length old)) (number word) (length (stem_letters word))
    answered = p.value ∙ ap (λ (a : Answer). with_letters a (number word) (length (stem_letters word))) plain_answer

    lacks : (length old < enough_room) ⊎ (length olds < most_bytes) → length old < enough_room
    lacks (inl h) = h
    lacks (inr h) = absurd (omega (arith, long))

    pub plain : (r : Result Stem Refusal) → r ≡ with_endings (stem_answer word (length old)) (number word) → StemPromised word old r new
    plain = numbered word old (stem_answer word (length old)) new
        (record {
          value = refl;
          out_after = p.out_after ∙ ap (λ (a : Answer). out_after a (stem_bytes word) old) plain_answer;
          out_len_bound = λ z. lacks (p.room_bound (sym (same-code (stem_answer word (length old)) answered) ∙ z));
        })

    -- the letters left out, by a work of which P is known
    pub left_out : {P : StemPlaces → Stem → Type 0} (r : Result Stem Refusal) → ((s : StemPlaces) (t : Stem) → P s t → t ≡ record { count = s.count; endings = s.endings })
        → MatchResult q (λ s. IsOkAnd r (P s)) (λ e. r ≡ Err e) → r ≡ with_endings (stem_answer word (length old)) (number word)
    left_out {P} r k m = go (stem_answer word (length old)) q r answered m
      where
        go : (a : Answer) (q : Result StemPlaces Refusal) (r : Result Stem Refusal) → q ≡ with_letters a (number word) (length (stem_letters word))
            → MatchResult q (λ s. IsOkAnd r (P s)) (λ e. r ≡ Err e) → r ≡ with_endings a (number word)
        go (Ok n) (Ok s) (Ok t) e m =
            let h : s ≡ record { count = n; endings = number word; letters = length (stem_letters word) } = cc in
            ap Ok (k s t m ∙ ap (λ (x : StemPlaces). record { count = x.count; endings = x.endings }) h)
        go (Ok n) (Ok s) (Err x) e m = absurd m
        go (Ok n) (Err x) r e m = cc
        go (Err x) (Ok s) r e m = cc
        go (Err x) (Err y) r e m = let h : y ≡ x = cc in m ∙ ap Err h
