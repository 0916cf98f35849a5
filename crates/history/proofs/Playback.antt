-- Playing the deeds of a word gives its stem, each in its place: item after item. Assumes nothing.
use mathlib.Core.Path.{◌≡◌, refl, sym, ap, ◌∙◌, subst}
use mathlib.Core.Bool.{Bool, true, false}
use mathlib.Core.List.{List, [], ◌∷◌, ◌++◌, map, reverse, append_assoc, append-nil}
use mathlib.Core.Option.{Option, none, some}
use Prim.Native.Nat.{ℕ, ◌-◌}
use lib.ListN.{length, take, drop}
use Rattle.std.specs.List.{All}
use Rattle.std.proofs.lemmas.List.Elements.{All-head}
use Rattle.definition.specs.Words.{Word, begins_with, ends_with}
use Rattle.definition.specs.Search.{row_at, taken}
use Rattle.definition.specs.Tries.{Try, done, failed, after, in_turn, first_of, attempt}
use Rattle.definition.specs.Kind.{Kind, kind}
use Rattle.definition.specs.Normal.{normalise}
use Rattle.definition.specs.Endings.{SuffixStep, suffix, Cut, Cutting, cut_off, cut, endings, endings_leave, suffix_all_alef_maqsura, maqsura_if_failed}
use Rattle.definition.specs.Endings.{ending as ending_row}
use Rattle.definition.specs.Fronts.{PrefixStep, prefix_step1, prefix_step2, prefix_step3a_noun, prefix_step3b_noun, prefix_step3_verb, prefix_step4_verb, prefix, not_at, Applied, at, front_row, replacement, Fronting, passing, change, begins_with_any, apply_by, apply_unless, apply, prefix_step3_verb_in_turn, prefix_step3_choices, prefix_steps, started, fronts}
use Rattle.definition.specs.Fronts.{text as front_text}
use Rattle.definition.specs.Finish.{last, other, finish}
use Rattle.definition.specs.Stem.{cutting, fronting, stem_of, stem, cuts, chain, applied}
use Rattle.definition.specs.Floating.{unmarked, without_marks}
use Rattle.definition.proofs.Match.{begins_split, ends_split}
use Rattle.definition.proofs.Found.{Taken, taken_some}
use Rattle.definition.proofs.Cutting.{cut_does, verb_keeps, noun_keeps, endings_keep}
use Rattle.definition.proofs.Triples.{Ends, Does, Keeps, ends-after, does_then, does_attempt, keeps_first, keeps_then, keeps_if}
use Rattle.definition.proofs.Finish.{finish-all}
use Rattle.definition.proofs.Leave.{endings_leave_lem}
use Rattle.definition.proofs.Depends.{stem_of_lem}
use Rattle.definition.proofs.Floating.{unmarked_twice}
use Rattle.history.specs.Steps.{floating_mark, normalize_pre, alef_maqsura, normalize_post_last, normalize_post_other, table_of, put_for, Deed, row_of, put}
use Rattle.history.specs.History.{Letters, whole, start, last_by, play_by, play, play_all, keys_in, last_of, but_last, cut_deed, front_deed, maqsura_deeds, post_deeds, stem_deeds, deeds, Change, told, history}
use Rattle.history.specs.Text.{line, text, story}
use Rattle.history.specs.Laws.{Replaces, InPlace}
use Rattle.history.proofs.Playing.{Plays, plays_none, plays_one, plays_both, plays_more, told_append}
use Rattle.history.proofs.Keys.{all_post, first_marks, first_pre, first_other, plays_keys, last_maqsura, last_post, plays_last}
use Rattle.history.proofs.Letters.{becomes_unmarked, becomes_normal, becomes_other, no_key, last_changed, maqsura_changed}

-- ---- floating marks, and item 2

pub plays_marks : (w : Word) → Plays (start w) (keys_in floating_mark w) (start (unmarked w))
plays_marks w = simp (append-nil, becomes_unmarked) at (plays_keys floating_mark first_marks w [] [] tt)

pub plays_pre : (w : Word) → Plays (start w) (keys_in normalize_pre w) (start (normalise w))
plays_pre w = simp (append-nil, becomes_normal) at (plays_keys normalize_pre first_pre w [] [] tt)

-- ---- the chain of item 3

module _ (n : Word) where
  abbrev CutsPlayed : Cutting → Type 0
  CutsPlayed v = Plays (start n) (map cut_deed (reverse v.cuts)) (start v.text)

  cut_played : (s : SuffixStep) (v : Cutting) (r : ℕ) → taken (ends_with v.text) (suffix s) (length v.text) ≡ some r → CutsPlayed v → CutsPlayed (cut_off v (record { step = s; row = r }))
  unfolding cut_off ending_row play play_by row_of put put_for table_of last_by
  cut_played s v r q h =
      let c : Cut = record { step = s; row = r } in
      let t : Taken (ends_with v.text) (suffix s) (length v.text) r = taken_some (ends_with v.text) (suffix s) (length v.text) r q in
      let key : Word = (row_at (suffix s).table r).letters in
      let left : Word = take (length v.text - length key) v.text in
      plays_more cut_deed c v.cuts (start n) (start v.text) (start left) h
      (plays_one (start v.text) (start left) (cut_deed c)
      (ap start (append-nil left))
      (record {
        listed = t.inside;
        before = left;
        behind = [];
        had = ends_split v.text key t.matches ∙ ap (λ (x : Word). left ++ x) (sym (append-nil key));
        has = sym (append-nil left);
      }))

  cut_plays : (s : SuffixStep) → Keeps CutsPlayed (cut s)
  cut_plays s = cut_does CutsPlayed CutsPlayed s (cut_played s)

  endings_played : (k : Kind) → CutsPlayed (after (endings k n))
  endings_played k = endings_keep CutsPlayed k n (verb_keeps CutsPlayed (λ s t. cut_plays s)) (noun_keeps CutsPlayed (λ s t. cut_plays s) k) (plays_none (start n))

-- ---- the last letter of a word

-- w ends with c, before which stands a
record Ended (w : Word) : Type 0 where
  pub a : Word
  pub c : ℕ
  pub is : w ≡ a ++ (c ∷ [])
  pub but : but_last w ≡ a
  pub end : last_of w ≡ c ∷ []
  pub maqsura : suffix_all_alef_maqsura w ≡ a ++ suffix_all_alef_maqsura (c ∷ [])

ended : (c : ℕ) (w : Word) → Ended (c ∷ w)
unfolding but_last last_of suffix_all_alef_maqsura
ended c [] = record { a = []; c = c; is = refl; but = refl; end = refl; maqsura = refl }
ended c (d ∷ w) =
    let e = ended d w in
    record {
      a = c ∷ e.a;
      c = e.c;
      is = ap (λ (x : Word). c ∷ x) e.is;
      but = ap (λ (x : Word). c ∷ x) e.but;
      end = e.end;
      maqsura = ap (λ (x : Word). c ∷ x) e.maqsura;
    }

-- ---- the last 0649 of item 3

last_played : (w : Word) → Plays (start w) (keys_in alef_maqsura (last_of w)) (start (suffix_all_alef_maqsura w))
last_played [] = unfold last_of keys_in suffix_all_alef_maqsura in plays_none (start [])
last_played (x ∷ w) =
    let e = ended x w in
    let p : Plays (start (e.a ++ (e.c ∷ []))) (keys_in alef_maqsura (e.c ∷ [])) (start (e.a ++ suffix_all_alef_maqsura (e.c ∷ []))) = rw maqsura_changed at (plays_last alef_maqsura last_maqsura e.a e.c) in
    subst (λ (y : Word). Plays (start (x ∷ w)) (keys_in alef_maqsura (last_of (x ∷ w))) (start y)) (sym e.maqsura)
    (subst (λ (y : Word). Plays (start (x ∷ w)) (keys_in alef_maqsura y) (start (e.a ++ suffix_all_alef_maqsura (e.c ∷ [])))) (sym e.end)
    (subst (λ (y : Word). Plays (start y) (keys_in alef_maqsura (e.c ∷ [])) (start (e.a ++ suffix_all_alef_maqsura (e.c ∷ [])))) (sym e.is) p))

maqsura_played : (y : Try Cutting) → Plays (start (after y).text) (maqsura_deeds y) (start (maqsura_if_failed y (after y).text))
unfolding maqsura_deeds maqsura_if_failed
maqsura_played (done v) = plays_none (start v.text)
maqsura_played (failed v) = last_played v.text

-- ---- the fronts of item 4

abbrev pub standing : Fronting → Letters
standing f = record { passed = f.head_letter ++ f.passed; rest = f.rest }

module _ (s : Word) where
  abbrev FrontsPlayed : Fronting → Type 0
  FrontsPlayed f = Plays (start s) (map front_deed (reverse f.applied)) (standing f)

  front_played : (st : PrefixStep) (f : Fronting) (r : ℕ) → taken (begins_with f.rest) (prefix st) (length (front_text f)) ≡ some r → FrontsPlayed f
      → Plays (start s) (map front_deed (reverse (at st r ∷ f.applied))) (record { passed = (f.head_letter ++ f.passed) ++ replacement (at st r); rest = drop (length (front_row (at st r))) f.rest })
  unfolding front_row replacement play play_by row_of put put_for table_of
  front_played st f r q h =
      let m : Applied = at st r in
      let t : Taken (begins_with f.rest) (prefix st) (length (front_text f)) r = taken_some (begins_with f.rest) (prefix st) (length (front_text f)) r q in
      let key : Word = (row_at (prefix st).table r).letters in
      let behind : Letters = record { passed = (f.head_letter ++ f.passed) ++ replacement m; rest = drop (length key) f.rest } in
      plays_more front_deed m f.applied (start s) (standing f) behind h
      (plays_one (standing f) behind (front_deed m)
      refl
      (record {
        listed = t.inside;
        before = f.head_letter ++ f.passed;
        behind = drop (length key) f.rest;
        had = ap (λ (x : Word). (f.head_letter ++ f.passed) ++ x) (begins_split f.rest key t.matches);
        has = append_assoc (f.head_letter ++ f.passed) (replacement m) (drop (length key) f.rest);
      }))

  step_plays : (P Q : Fronting → Type 0) (st : PrefixStep)
      → ((f : Fronting) (r : ℕ) → taken (begins_with f.rest) (prefix st) (length (front_text f)) ≡ some r → P f → Q (change st f (at st r)))
      → ((f : Fronting) → P f → Q f) → Does P Q Q (apply st)
  unfolding apply
  step_plays P Q st y n f p = bar (begins_with_any f.rest (not_at st))
    where
      go : (o : Option ℕ) → taken (begins_with f.rest) (prefix st) (length (front_text f)) ≡ o → Ends Q Q (apply_by st f o)
      go none q = n f p
      go (some r) q = y f r q p

      bar : (b : Bool) → Ends Q Q (apply_unless b st f)
      bar true = n f p
      bar false = go (taken (begins_with f.rest) (prefix st) (length (front_text f))) refl

  -- nothing stands before the cursor when Step1 is reached
  record Bare (f : Fronting) : Type 0 where
    pub none_passed : f.head_letter ++ f.passed ≡ []
    pub no_more : f.passed ≡ []
    pub played : FrontsPlayed f

  bare_start : Bare (started s)
  unfolding started
  bare_start = record { none_passed = refl; no_more = refl; played = plays_none (start s) }

  head_plays : Does Bare FrontsPlayed FrontsPlayed (apply prefix_step1)
  unfolding change
  head_plays = step_plays Bare FrontsPlayed prefix_step1
      (λ f r q b.
      let m : Applied = at prefix_step1 r in
      let e : (f.head_letter ++ f.passed) ++ replacement m ≡ replacement m ++ f.passed = ap (λ (x : Word). x ++ replacement m) b.none_passed ∙ sym (append-nil (replacement m)) ∙ ap (λ (x : Word). replacement m ++ x) (sym b.no_more) in
      subst (λ (x : Word). Plays (start s) (map front_deed (reverse (m ∷ f.applied))) (record { passed = x; rest = drop (length (front_row m)) f.rest })) e (front_played prefix_step1 f r q b.played))
      (λ f b. b.played)

  front_plays : (st : PrefixStep) → ((f : Fronting) (m : Applied) → change st f m ≡ passing f m) → Keeps FrontsPlayed (apply st)
  front_plays st e = step_plays FrontsPlayed FrontsPlayed st (λ f r q h. subst FrontsPlayed (sym (e f (at st r))) (rw append_assoc at (front_played st f r q h))) (λ f h. h)

  fronts_played : (k : Kind) → FrontsPlayed (fronts k s)
  unfolding fronts prefix_steps change
  fronts_played k = ends-after FrontsPlayed (prefix_steps k (started s)) (
      does_then Bare FrontsPlayed FrontsPlayed FrontsPlayed (attempt (apply prefix_step1)) _
      (does_attempt Bare FrontsPlayed FrontsPlayed (apply prefix_step1) head_plays)
      (keeps_then FrontsPlayed (attempt (apply prefix_step2)) (first_of (prefix_step3_choices k (in_turn prefix_step3_verb_in_turn)))
      (does_attempt FrontsPlayed FrontsPlayed FrontsPlayed (apply prefix_step2) (front_plays prefix_step2 (λ f m. refl)))
      (keeps_first FrontsPlayed (prefix_step3_choices k (in_turn prefix_step3_verb_in_turn)) (
        front_plays prefix_step3a_noun (λ f m. refl),
        (
          front_plays prefix_step3b_noun (λ f m. refl),
          (
            keeps_if FrontsPlayed k (in_turn prefix_step3_verb_in_turn) (keeps_then FrontsPlayed (attempt (apply prefix_step3_verb)) (apply prefix_step4_verb)
                (does_attempt FrontsPlayed FrontsPlayed FrontsPlayed (apply prefix_step3_verb) (front_plays prefix_step3_verb (λ f m. refl)))
                (front_plays prefix_step4_verb (λ f m. refl))),
            tt,
          ),
        ),
      )))
      (started s) bare_start)

-- ---- item 5

pub plays_post : (w : Word) → Plays (start w) (post_deeds w) (start (finish w))
unfolding post_deeds
plays_post [] = unfold last_of but_last keys_in finish in plays_none (start [])
plays_post (x ∷ w) =
    let e = ended x w in
    let first : Plays (start (e.a ++ (e.c ∷ []))) (keys_in normalize_post_last (e.c ∷ [])) (start (e.a ++ (last e.c ∷ []))) = rw last_changed at (plays_last normalize_post_last last_post e.a e.c) in
    let second : Plays (start (e.a ++ (last e.c ∷ []))) (keys_in normalize_post_other e.a) (start (map other e.a ++ (last e.c ∷ []))) = rw becomes_other at (plays_keys normalize_post_other first_other e.a [] (last e.c ∷ []) tt) in
    let both = plays_both (keys_in normalize_post_last (e.c ∷ [])) (keys_in normalize_post_other e.a) (start (e.a ++ (e.c ∷ []))) (start (e.a ++ (last e.c ∷ []))) (start (map other e.a ++ (last e.c ∷ []))) first second in
    let finished : finish (x ∷ w) ≡ map other e.a ++ (last e.c ∷ []) = ap finish e.is ∙ finish-all e.a e.c in
    subst (λ (y : Word). Plays (start (x ∷ w)) (keys_in normalize_post_last y ++ keys_in normalize_post_other (but_last (x ∷ w))) (start (finish (x ∷ w)))) (sym e.end)
    (subst (λ (y : Word). Plays (start (x ∷ w)) (keys_in normalize_post_last (e.c ∷ []) ++ keys_in normalize_post_other y) (start (finish (x ∷ w)))) (sym e.but)
    (subst (λ (y : Word). Plays (start (x ∷ w)) (keys_in normalize_post_last (e.c ∷ []) ++ keys_in normalize_post_other e.a) (start y)) (sym finished)
    (subst (λ (y : Word). Plays (start y) (keys_in normalize_post_last (e.c ∷ []) ++ keys_in normalize_post_other e.a) (start (map other e.a ++ (last e.c ∷ [])))) (sym e.is) both)))

-- it reads the whole word, wherever the cursor is
abbrev ReadsWhole : Deed → Type 0
ReadsWhole d = (p : Letters) → play d p ≡ play d (start (whole p))

post_whole : (w : Word) → All ReadsWhole (post_deeds w)
unfolding play play_by
post_whole = all_post ReadsWhole (λ r l p. refl) (λ r l p. refl)

-- playing ds on p makes the letters of w
abbrev PlaysTo : Letters → List Deed → Word → Type 0
PlaysTo p ds w = (q : Letters) × Plays p ds q × (whole q ≡ w)

any_cursor : (ds : List Deed) (p q : Letters) → All ReadsWhole ds → Plays (start (whole p)) ds q → PlaysTo p ds (whole q)
unfolding play_all InPlace
any_cursor [] p q a h = (p, plays_none p, ap whole h.makes)
any_cursor (d ∷ ds) p q a h =
    let e : play d p ≡ play d (start (whole p)) = All-head ReadsWhole d ds a p in (
      q,
      record {
        makes = ap (play_all ds) e ∙ h.makes;
        places = subst (λ (x : Letters). Replaces d (whole p) (whole x) × InPlace x ds) (sym e) h.places;
      },
      refl,
    )

-- ---- all items

module _ (w : Word) where
  abbrev k : Kind
  k = kind w

  abbrev n : Word
  n = normalise w

  abbrev f : Fronting
  f = fronting (kind w) (normalise w)

  pub plays_chain : Plays (start (normalise w)) (map cut_deed (chain w)) (start (cutting (kind w) (normalise w)).text)
  unfolding chain cuts cutting
  plays_chain = endings_played n k

  pub plays_maqsura : Plays (start (cutting (kind w) (normalise w)).text) (maqsura_deeds (endings (kind w) (normalise w))) (start (endings_leave (kind w) (normalise w)))
  unfolding cutting
  plays_maqsura = rw endings_leave_lem (maqsura_played (endings k n))

  pub plays_fronts : Plays (start (endings_leave (kind w) (normalise w))) (map front_deed (reverse (applied w))) (standing (fronting (kind w) (normalise w)))
  unfolding applied fronting
  plays_fronts = fronts_played (endings_leave k n) k

  plays_finish : PlaysTo (standing f) (post_deeds (front_text f)) (finish (front_text f))
  plays_finish =
      any_cursor (post_deeds (front_text f)) (standing f) (start (finish (front_text f))) (post_whole (front_text f))
      (subst (λ (x : Word). Plays (start x) (post_deeds (front_text f)) (start (finish (front_text f)))) (sym (append_assoc f.head_letter f.passed f.rest)) (plays_post (front_text f)))

  plays_stem : PlaysTo (start w) (stem_deeds w) (stem w)
  unfolding stem_deeds stem_of
  plays_stem =
      let end = plays_finish in (
        end.0,
        plays_both (keys_in normalize_pre w) _ (start w) (start n) end.0 (plays_pre w)
            (plays_both (map cut_deed (chain w)) _ (start n) (start (cutting k n).text) end.0 plays_chain
            (plays_both (maqsura_deeds (endings k n)) _ (start (cutting k n).text) (start (endings_leave k n)) end.0 plays_maqsura
            (plays_both (map front_deed (reverse (applied w))) _ (start (endings_leave k n)) (standing f) end.0 plays_fronts
            end.1))),
        end.2 ∙ sym (stem_of_lem w),
      )

-- playing the changes on the typed word makes the stem of the word without its floating marks
pub plays : (w : Word) → (q : Letters) × Plays (start w) (deeds w) q × (whole q ≡ without_marks stem w)
unfolding deeds
plays w =
    let p = plays_stem (unmarked w) in
    (p.0, plays_both (keys_in floating_mark w) (stem_deeds (unmarked w)) (start w) (start (unmarked w)) p.0 (plays_marks w) p.1, p.2)

-- what is told of a word is what is told of its floating marks, and then the history of the word without them
pub marked : (w : Word) → history w ≡ told (start w) (keys_in floating_mark w) ++ without_marks history w
unfolding history deeds
marked w =
    let u : Word = unmarked w in
    let none : keys_in floating_mark u ++ stem_deeds (unmarked u) ≡ stem_deeds u = (λ i. no_key w i ++ stem_deeds (unmarked_twice w i)) in
    told_append (keys_in floating_mark w) (stem_deeds u) (start w)
    ∙ (λ i. told (start w) (keys_in floating_mark w) ++ told ((plays_marks w).makes i) (sym none i))

text_append : (xs ys : List Change) → text (xs ++ ys) ≡ text xs ++ text ys
unfolding text
text_append [] ys = refl
text_append (c ∷ cs) ys = ap (λ (t : List ℕ). line c ++ t) (text_append cs ys) ∙ sym (append_assoc (line c) (text cs) (text ys))

pub marked_story : (w : Word) → story w ≡ text (told (start w) (keys_in floating_mark w)) ++ without_marks story w
unfolding story
marked_story w = ap text (marked w) ∙ text_append (told (start w) (keys_in floating_mark w)) (without_marks history w)
