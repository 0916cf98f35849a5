-- What the story entry promises, from the outcome of the checks and from what is written on the page. Assumes nothing.
use mathlib.Core.Path.{◌≡◌, refl, sym, ap, ◌∙◌, subst}
use mathlib.Core.Bool.{Bool, true, false}
use mathlib.Core.List.{List, [], ◌++◌}
use mathlib.Core.Option.{some}
use Prim.Native.Nat.{ℕ, ◌^◌, ◌≤◌, ◌<◌}
use native.Mathlib.Omega.{arith}
use lib.Dec.{ltb}
use lib.ListN.{length, take, drop}
use lib.Seq.{take_at}
use borrow.Author.Tests.{ltb-true}
use Rattle.std.specs.Prelude.{Option as Maybe, Result, Ok, Err}
use Rattle.std.specs.Result.{IsErrAnd}
use Rattle.std.specs.List.{All}
use Rattle.std.proofs.lemmas.List.Elements.{All-weaker}
use Rattle.std.proofs.lemmas.Result.{err_from_is_err_and}
use Rattle.definition.specs.Words.{Word, pick}
use Rattle.definition.specs.Floating.{floating_marks, unmarked}
use Rattle.definition.proofs.Match.{by}
use Rattle.utf8.specs.Utf8.{encode, decode}
use Rattle.utf8.specs.Spelt.{Encodes}
use Rattle.stemmer.specs.declared.outcome.BadWord.{BadWord}
use Rattle.stemmer.specs.declared.outcome.Refusal.{Refusal}
use Rattle.stemmer.specs.declared.outcome.Refusal.TheVariants.{Bad, NoRoom}
use Rattle.stemmer.specs.Entries.{Answer, code_of, letters, checked, after_checks, fitting, out_after}
use Rattle.stemmer.proofs.Answers.{letters_are, short, scalars, spelling, bad_word, refused_code}
use Rattle.history.specs.Steps.{floating_mark, name, table_of}
use Rattle.history.specs.History.{start, keys_in, stem_deeds, deeds, Change, history, numbered}
use Rattle.history.specs.Text.{story, text}
use Rattle.history.specs.Reader.{read}
use Rattle.history.proofs.Main.{main_reads, main_length, main_short, main_in_place, main_counted}
use Rattle.history.proofs.Playing.{in_place_listed}
use Rattle.story.specs.declared.page.Page.{Page}
use Rattle.story.specs.Telling.{written, lines, Tells, Fits, puts_for, KeysOf}
use Rattle.story.specs.Entry.{story_room, story_bytes, story_answer, ReadBack}
use Rattle.story.proofs.Lines.{tells_both, fits_first, fits_second}

-- ---- the page of an accepted word
module _ (word : List ℕ) (ok : checked word ≡ Ok tt) where
  abbrev w : Word
  w = letters word

  pub few_bytes : length (encode (letters word)) ≤ 255
  few_bytes = omega (arith, short word ok, ap length (spelling word ok))

  pub encoded : Encodes word (letters word)
  encoded = (scalars word ok, spelling word ok)

  pub story_short : length (story_bytes word) ≤ story_room
  unfolding story_bytes
  story_short = omega (arith, main_length (letters word) few_bytes, few_bytes)

  few_letters : All (λ (c : Change). c.left ≤ 255) (numbered (length (letters word)) (deeds (letters word)))
  few_letters =
      subst (All (λ (c : Change). c.left ≤ 255)) (main_counted (letters word))
      (All-weaker (λ (c : Change). c.left ≤ length (encode (letters word))) (λ (c : Change). c.left ≤ 255) (λ c h. omega (arith, h, few_bytes)) (history (letters word)) (main_short (letters word)))

  story_lines : lines (length (letters word)) (deeds (letters word)) ≡ story_bytes word
  unfolding story_bytes story
  story_lines = ap text (sym (main_counted (letters word)))

  -- an empty page
  module _ (p : Page) (n : p.letters ≡ length (letters word)) (z : p.len ≡ 0) where
    lines_are : lines p.letters (deeds (letters word)) ≡ story_bytes word
    lines_are = ap (λ (k : ℕ). lines k (deeds (letters word))) n ∙ story_lines

    fits_deeds : Fits p (deeds (letters word))
    fits_deeds = record {
      listed = in_place_listed (start w) (deeds w) (main_in_place w);
      small = subst (λ (k : ℕ). All (λ (c : Change). c.left ≤ 255) (numbered k (deeds w))) (sym n) few_letters;
      room = omega (arith, z, ap length lines_are, story_short);
    }

    pub mark_keys : {answers : ℕ → Maybe ℕ → Type 0} → ((c : ℕ) (r : Maybe ℕ) → answers c r → r ≡ puts_for floating_mark c) → (step_name : List ℕ) → step_name ≡ name floating_mark
        → KeysOf answers step_name word p floating_mark (letters word)
    unfolding table_of floating_marks deeds
    mark_keys a s q = record { one = refl; puts = a; named = q; encodes = encoded; fits = fits_first (keys_in floating_mark w) (stem_deeds (unmarked w)) p fits_deeds }

    module _ {q : Page} (t : Tells p (keys_in floating_mark (letters word)) q) where
      pub fits_items : Fits q (stem_deeds (unmarked (letters word)))
      unfolding deeds
      fits_items = fits_second (keys_in floating_mark w) (stem_deeds (unmarked w)) p fits_deeds q t

      pub page_told : (r : Page) → Tells q (stem_deeds (unmarked (letters word))) r → (take r.len r.text ≡ story_bytes word) × (r.len ≤ story_room)
      unfolding deeds
      page_told r u =
          let a = tells_both (keys_in floating_mark w) (stem_deeds (unmarked w)) t u in
          let e : written p ≡ [] = ap (λ (k : ℕ). take k p.text) z in
          (a.text ∙ ap (λ (x : List ℕ). x ++ lines p.letters (deeds w)) e ∙ lines_are, omega (arith, a.len, z, ap length lines_are, story_short))

-- ---- the promises
module _ (word old : List ℕ) where
  abbrev pub Promised : Answer → List ℕ → Type 0
  Promised r new = record {
    value : r ≡ story_answer word (length old);
    out_after : new ≡ out_after (story_answer word (length old)) (story_bytes word) old;
    read_back : ReadBack word (story_answer word (length old)) new;
    room_bound : code_of r ≡ 3 → length old < story_room;
  }

  abbrev answer_by : Result (Unit {0}) BadWord → Answer
  answer_by c = after_checks c (fitting (length (story_bytes word)) (length old))

  answer_is : (c : Result (Unit {0}) BadWord) → checked word ≡ c → story_answer word (length old) ≡ answer_by c
  unfolding story_answer
  answer_is c e = ap (λ (x : Result (Unit {0}) BadWord). after_checks x (fitting (length (story_bytes word)) (length old))) e

  -- what is written can be read back
  read_by : (c : Result (Unit {0}) BadWord) → checked word ≡ c → ReadBack word (answer_by c) (out_after (answer_by c) (story_bytes word) old)
  unfolding fitting out_after story_bytes
  read_by (Err e) q = λ w d z. absurd (refused_code (Bad e) z)
  read_by (Ok u) q = go (ltb (length old) (length (story_bytes word)))
    where
      is_read : (w : Word) → decode word ≡ some w → read (story_bytes word) ≡ some (history w)
      is_read w d =
          let e : letters word ≡ w = letters_are word w d in
          let h : length (encode w) < 10 ^ 64 = subst (λ (x : Word). length (encode x) < 10 ^ 64) e (omega (arith, few_bytes word q)) in
          ap (λ (x : Word). read (story x)) e ∙ main_reads w h

      go : (b : Bool) → ReadBack word (pick b (Err NoRoom) (Ok (length (story_bytes word)))) (out_after (pick b (Err NoRoom) (Ok (length (story_bytes word)))) (story_bytes word) old)
      go true = λ w d z. absurd (refused_code NoRoom z)
      go false = λ w d z. ap read (take_at (story_bytes word) (drop (length (story_bytes word)) old) (length (story_bytes word)) refl) ∙ is_read w d

  pub refused : (e : BadWord) → Err e ≡ checked word → (r : Answer) → IsErrAnd r (λ (x : Refusal). x ≡ Bad e) → Promised r old
  unfolding out_after
  refused e c r h =
      let p = err_from_is_err_and r h in
      let is : r ≡ Err (Bad e) = p.1 ∙ ap Err p.2 in
      let q : story_answer word (length old) ≡ Err (Bad e) = answer_is (Err e) (sym c) in
      record {
        value = is ∙ sym q;
        out_after = ap (λ (a : Answer). out_after a (story_bytes word) old) (sym q);
        read_back = λ w d z. absurd (refused_code (Bad e) (sym (ap (code_of {A = ℕ}) q) ∙ z));
        room_bound = λ z. absurd (bad_word e (sym (ap (code_of {A = ℕ}) is) ∙ z));
      }

  pub delivered : Ok tt ≡ checked word → (written : List ℕ) → written ≡ story_bytes word → (r : Answer) → r ≡ fitting (length written) (length old) → (new : List ℕ) → new ≡ out_after r written old → Promised r new
  unfolding fitting
  delivered c written b r a new o =
      let q : story_answer word (length old) ≡ fitting (length (story_bytes word)) (length old) = answer_is (Ok tt) (sym c) in
      let fits : r ≡ fitting (length (story_bytes word)) (length old) = a ∙ ap (λ (bs : List ℕ). fitting (length bs) (length old)) b in
      let v : r ≡ story_answer word (length old) = fits ∙ sym q in
      let w : new ≡ out_after (story_answer word (length old)) (story_bytes word) old = o ∙ ap (λ (bs : List ℕ). out_after r bs old) b ∙ ap (λ (x : Answer). out_after x (story_bytes word) old) v in
      record {
        value = v;
        out_after = w;
        read_back = subst (ReadBack word (story_answer word (length old))) (sym w) (subst (λ (x : Answer). ReadBack word x (out_after x (story_bytes word) old)) (sym (answer_is (Ok tt) (sym c))) (read_by (Ok tt) (sym c)));
        room_bound = λ z. few_room (sym (ap (code_of {A = ℕ}) fits) ∙ z) (story_short word (sym c));
      }
    where
      few_room : code_of (fitting (length (story_bytes word)) (length old)) ≡ 3 → length (story_bytes word) ≤ story_room → length old < story_room
      few_room z h = by (ltb (length old) (length (story_bytes word)))
          (λ t. omega (arith, h, ltb-true (length old) (length (story_bytes word)) t))
          (λ f. absurd (let k : 0 ≡ 3 = sym (ap (λ (b : Bool). code_of (pick b (Err NoRoom) (Ok (length (story_bytes word))))) f) ∙ z in omega (arith, k)))
