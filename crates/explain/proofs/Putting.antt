-- What is put into the output, one text behind the other. Assumes nothing.
use mathlib.Core.Path.{◌≡◌, refl, sym, ap, ◌∙◌}
use mathlib.Core.List.{List, [], ◌∷◌, ◌++◌, append_assoc}
use Prim.Native.Nat.{ℕ, ◌+◌, ◌<◌, ◌≤◌}
use native.Mathlib.Omega.{arith}
use lib.Dec.{ltb}
use lib.ListN.{length, take, drop, set, length-drop, length-append}
use lib.Seq.{length-take-le, take_at, drop_at, drop-drop}
use borrow.Author.Tests.{ltb-false}
use borrow.Rule.Slice.PartMut.{put_mid}
use Rattle.std.specs.Prelude.{Result, Ok, Err}
use Rattle.std.specs.Result.{IsOk}
use Rattle.definition.proofs.Match.{by}
use Rattle.stemmer.specs.declared.outcome.Stem.{Stem}
use Rattle.stemmer.specs.declared.outcome.BadWord.{BadWord}
use Rattle.stemmer.specs.declared.outcome.BadWord.TheVariants.{TooLong, NotWellFormed}
use Rattle.stemmer.specs.declared.outcome.Refusal.{Refusal}
use Rattle.stemmer.specs.Entries.{Answer, enough_room, refusal_code, code_of, checked, after_checks, fitting, answer, out_after, without_endings, stem_bytes, stem_answer, stem_entry}
use Rattle.stemmer.proofs.Answers.{entry_answer}
use Rattle.story.specs.Entry.{story_room, story_bytes, story_answer}
use Rattle.lines.specs.Plain.{line_feed}
use Rattle.lines.specs.Refusals.{question_mark, zero_digit, refusal, text_after}
use Rattle.explain.specs.Explained.{told}
use Rattle.lines.proofs.Lists.{rejoin, ended}

-- where an entry's answer is not code 3, the result fits
enough : (n room : ℕ) → (code_of (fitting n room) ≡ 3 → ⊥) → (fitting n room ≡ Ok n) × (n ≤ room)
unfolding fitting
enough n room f = by (ltb room n) (λ t. absurd (f (rw t refl))) (λ t. (rw t refl, ltb-false room n t))

-- what an Ok and an Err say
pub ok_is : {m n : ℕ} → ◌≡◌ {A = Answer} (Ok m) (Ok n) → m ≡ n
ok_is e = cc

err_is : {x y : Refusal} → ◌≡◌ {A = Answer} (Err x) (Err y) → x ≡ y
err_is e = cc

pub ok_stem : (r : Result Stem Refusal) (n : ℕ) → without_endings r ≡ Ok n → IsOk r
ok_stem (Ok s) n e = refl
ok_stem (Err x) n e = cc

-- the code of an answer with endings
same_code : (r : Result Stem Refusal) → code_of r ≡ code_of (without_endings r)
same_code (Ok s) = refl
same_code (Err e) = refl

-- what an entry leaves that is lent room bytes of the output, behind the first at, and puts text there: r is its answer, and part these bytes afterwards
pub record Put (text out part : List ℕ) (at room : ℕ) (r : Answer) : Type 0 where
  pub done : r ≡ Ok (length text)
  pub fits : length text ≤ room
  pub left : put_mid at room out part ≡ (take at out ++ text) ++ drop (at + length text) out

module _ (word out part : List ℕ) (at room : ℕ) (e : checked word ≡ Ok tt) (h : at + room ≤ length out) where
  lent : List ℕ
  lent = take room (drop at out)

  lent-length : length lent ≡ room
  unfolding lent
  lent-length = length-take-le room (drop at out) (simp length-drop (omega arith))

  -- an entry whose result is text, where so many bytes are always enough
  entry_puts : (text : List ℕ) (r a : Answer) → a ≡ after_checks (checked word) (fitting (length text) (length lent)) → r ≡ a → (code_of r ≡ 3 → length lent < room)
      → part ≡ out_after a text lent → Put text out part at room r
  unfolding out_after lent
  entry_puts text r a q s f o =
      let accepted : a ≡ fitting (length text) room =
      q ∙ (ap (λ (k : Result (Unit {0}) BadWord). after_checks k (fitting (length text) (length lent))) e ∙ ap (fitting (length text)) lent-length) in
      let d = enough (length text) room (λ z. omega (arith, f (ap (code_of {A = ℕ}) (s ∙ accepted) ∙ z), lent-length)) in
      let p : part ≡ text ++ drop (length text) lent = o ∙ ap (λ (x : Answer). out_after x text lent) (accepted ∙ d.0) in
      record {
        done = s ∙ (accepted ∙ d.0);
        fits = d.1;
        left = rw (p, append_assoc text (drop (length text) lent) (drop room (drop at out)), rejoin (length text) room (drop at out) d.1 (simp length-drop (omega arith)), drop-drop, append_assoc) refl;
      }

  pub story_puts : room ≡ story_room → (r : Answer) → r ≡ story_answer word (length (take room (drop at out))) → (code_of r ≡ 3 → length (take room (drop at out)) < story_room)
      → part ≡ out_after (story_answer word (length (take room (drop at out)))) (story_bytes word) (take room (drop at out)) → Put (story_bytes word) out part at room r
  unfolding story_answer lent
  story_puts m r q f = entry_puts (story_bytes word) r (story_answer word (length lent)) refl q (λ z. omega (arith, f z))

  pub stem_puts : room ≡ enough_room → (r : Result Stem Refusal) → r ≡ stem_entry word (length (take room (drop at out))) → (code_of r ≡ 3 → length (take room (drop at out)) < enough_room)
      → part ≡ out_after (stem_answer word (length (take room (drop at out)))) (stem_bytes word) (take room (drop at out)) → Put (stem_bytes word) out part at room (without_endings r)
  unfolding answer lent
  stem_puts m r q f = entry_puts (stem_bytes word) (without_endings r) (stem_answer word (length lent)) refl (ap without_endings q ∙ entry_answer word (length lent)) (λ z. omega (arith, f (same_code r ∙ z)))

-- a text put behind what stands in front of the output
behind : (front text old out : List ℕ) (at end : ℕ) → out ≡ front ++ drop at old → at ≡ length front → end ≡ at + length text
    → (take at out ++ text) ++ drop end out ≡ (front ++ text) ++ drop end old
behind front text old out at end e n m =
    let first : take at out ≡ front = ap (take at) e ∙ take_at front (drop at old) at (sym n) in
    let rest : drop at out ≡ drop at old = ap (drop at) e ∙ drop_at front (drop at old) at (sym n) in
    rw (m, first, ← drop-drop (length text) at out, rest, drop-drop) refl

-- all that is told of a word: the outputs and their ends after one text, two and three
pub all_told : (word old a b c : List ℕ) (i j k : ℕ) → i ≡ length word + 1 → a ≡ (word ++ line_feed ∷ []) ++ drop i old
    → j ≡ i + length (story_bytes word) → b ≡ (take i a ++ story_bytes word) ++ drop j a → k ≡ j + length (stem_bytes word) → c ≡ (take j b ++ stem_bytes word) ++ drop k b
    → (k ≡ length (told word)) × (c ≡ told word ++ drop k old)
unfolding told
all_told word old a b c i j k m e n f p g =
    let word_line = word ++ line_feed ∷ [] in
    let first : i ≡ length word_line = m ∙ sym (length-append word (line_feed ∷ [])) in
    let second : j ≡ length (word_line ++ story_bytes word) = omega (arith, n, first, length-append word_line (story_bytes word)) in
    let b_is = f ∙ behind word_line (story_bytes word) old a i j e first n in (
      omega (arith, p, second, length-append (word_line ++ story_bytes word) (stem_bytes word)),
      g ∙ behind (word_line ++ story_bytes word) (stem_bytes word) old b j k b_is second p,
    )

-- the text of a line, by what is answered of the checks
done_text : (k : Result (Unit {0}) BadWord) (text : List ℕ) (n : ℕ) → Ok n ≡ after_checks k (Ok (length text)) → (length text ≡ n) × (text_after k text ≡ text)
done_text (Ok u) text n e = (sym (ok_is e), refl)
done_text (Err x) text n e = cc

refused_text : (k : Result (Unit {0}) BadWord) (text : List ℕ) (r : Refusal) → Err r ≡ after_checks k (Ok (length text)) → text_after k text ≡ refusal (refusal_code r)
refused_text (Ok u) text r e = cc
refused_text (Err TooLong) text r e = ap (λ (x : Refusal). refusal (refusal_code x)) (sym (err_is e))
refused_text (Err NotWellFormed) text r e = ap (λ (x : Refusal). refusal (refusal_code x)) (sym (err_is e))

-- and the text with LF behind it, in front of the output o: p is the output when all is told
module _ (k : Result (Unit {0}) BadWord) (text o p : List ℕ) (a : Answer) (e : a ≡ after_checks k (Ok (length text))) (q : p ≡ out_after a text o) where
  pub done_line : (n : ℕ) → a ≡ Ok n → n < length o → set p n line_feed ≡ (text_after k text ++ line_feed ∷ []) ++ drop (n + 1) o
  unfolding out_after
  done_line n i h =
      let d = done_text k text n (sym i ∙ e) in
      rw (q, i, d.1) (ended text o n line_feed d.0 h)

  pub refused_line : (r : Refusal) → a ≡ Err r → question_mark ∷ (zero_digit + refusal_code r) ∷ line_feed ∷ drop 3 p ≡ (text_after k text ++ line_feed ∷ []) ++ drop 3 o
  unfolding out_after
  refused_line r i = rw (refused_text k text r (sym i ∙ e), q, i) refl

-- and an empty line behind it
pub empty_line : (text old new : List ℕ) (n : ℕ) → n ≡ length text + 1 → new ≡ (text ++ line_feed ∷ []) ++ drop n old → n < length old
    → (n + 1 ≡ length (text ++ line_feed ∷ line_feed ∷ [])) × (set new n line_feed ≡ (text ++ line_feed ∷ line_feed ∷ []) ++ drop (n + 1) old)
empty_line text old new n m e h = (
  omega (arith, m, length-append text (line_feed ∷ line_feed ∷ [])),
  rw (e, ended (text ++ line_feed ∷ []) old n line_feed (omega (arith, m, length-append text (line_feed ∷ []))) h)
      (ap (λ (t : List ℕ). t ++ drop (n + 1) old) (append_assoc text (line_feed ∷ []) (line_feed ∷ []))),
)
