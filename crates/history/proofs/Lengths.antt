-- No number in a history is above the number of the word's bytes, and how long a story is at most. Assumes nothing.
use mathlib.Core.Path.{◌≡◌, refl, ap, ◌∙◌, subst}
use mathlib.Core.Bool.{Bool, true}
use mathlib.Core.List.{List, [], ◌∷◌, ◌++◌, map, map-append, reverse, reverse-cons, append_assoc}
use Prim.Native.Nat.{ℕ, ◌+◌, ◌*◌, ◌^◌, ◌≤◌, ◌<◌}
use native.Mathlib.Omega.{arith}
use lib.Dec.{eqb, leb, ltb}
use lib.ListN.{length, length-append}
use borrow.Author.Tests.{ltb-false, leb-true, lt-ltb, le-ltb, le-leb, ne_eqb}
use Rattle.std.specs.Fmt.{decimal}
use Rattle.std.specs.List.{All, sum_by}
use Rattle.std.proofs.lemmas.Fmt.{length-decimal-le_wide}
use Rattle.std.proofs.lemmas.List.Elements.{All-nil, All-cons, All-head, All-tail, All-map, All-weaker}
use Rattle.std.proofs.lemmas.List.Sums.{sum_by-cons, sum_by-append, sum_by-le}
use Rattle.utf8.specs.Utf8.{encode1, encode}
use Rattle.utf8.proofs.Ahead.{cons_size}
use Rattle.definition.specs.Letters.{lam}
use Rattle.definition.specs.Words.{Word, pick}
use Rattle.definition.specs.Tables.{Row, A_0, A_1, A_2, A_4, A_5, A_6, A_7, A_8, A_9, A_11, A_12, A_13, A_14, A_15, A_16, A_17, A_18, A_19, A_20, A_21}
use Rattle.definition.specs.Search.{row_at}
use Rattle.definition.specs.Tries.{Try, done, failed}
use Rattle.definition.specs.Kind.{Kind, kind}
use Rattle.definition.specs.Normal.{gives, listed_for, normalise}
use Rattle.definition.specs.Endings.{suffix, Cutting, endings, endings_leave}
use Rattle.definition.specs.Fronts.{PrefixStep, prefix_step1, prefix_step2, prefix_step3a_noun, prefix_step3b_noun, prefix_step3_verb, prefix_step4_verb, prefix, replacements, Applied, Fronting}
use Rattle.definition.specs.Fronts.{text as front_text}
use Rattle.definition.specs.Finish.{finish}
use Rattle.definition.specs.Stem.{cutting, fronting, chain, applied, head_letter}
use Rattle.definition.specs.Stem.{front as front_letters}
use Rattle.definition.specs.Demand3.{AtMostOne, unused, once, HeadOf, no_head, one_head, Third, third_a, third_b, third_verb, InOrder}
use Rattle.definition.specs.Facts.{distinct, in_range}
use Rattle.definition.specs.Floating.{floating_marks, unmarked}
use Rattle.definition.proofs.Match.{by}
use Rattle.definition.proofs.Passed.{in_range_lem}
use Rattle.definition.proofs.Unique.{some_letter}
use Rattle.definition.proofs.Main.{main_demand3}
use Rattle.history.specs.Steps.{Step, floating_mark, normalize_pre, alef_maqsura, normalize_post_last, normalize_post_other, ending, front, name, table_of, put_for, Deed, row_of, put}
use Rattle.history.specs.History.{Letters, whole, start, play, play_all, is_key, keys_in, last_of, cut_deed, front_deed, maqsura_deeds, post_deeds, stem_deeds, deeds, Change, told, history}
use Rattle.history.specs.Text.{spelt, line, text, story}
use Rattle.history.specs.Laws.{Listed, Readable, InPlace}
use Rattle.history.proofs.Rows.{step_test, every_row, row_test, distinct_rows}
use Rattle.history.proofs.Playing.{Plays, replaces_weight}
use Rattle.history.proofs.Keys.{all_keys, all_maqsura, all_post}
use Rattle.history.proofs.Playback.{standing, plays_marks, plays_pre, plays_chain, plays_maqsura, plays_fronts, plays_post, plays}

-- ---- the numbers

-- the letters that a letter may become: two of three bytes at most
abbrev room : ℕ → ℕ
room c = pick (ltb c 0x800) 1 2

abbrev room_kept : Step → Row → Bool
room_kept s k = leb (sum_by room (put_for s k.class)) (sum_by room k.letters)

all_keep_room : every_row room_kept ≡ true
unfolding table_of put_for gives listed_for suffix prefix replacements floating_marks A_0 A_1 A_2 A_4 A_5 A_6 A_7 A_8 A_9 A_11 A_12 A_13 A_14 A_15 A_16 A_17 A_18 A_19 A_20 A_21
all_keep_room = refl

length_room : (w : Word) → length w ≤ sum_by room w
length_room [] = omega arith
length_room (c ∷ w) = by (ltb c 0x800)
    (λ e. let s : sum_by room (c ∷ w) ≡ 1 + sum_by room w = sum_by-cons room c w ∙ ap (λ (b : Bool). pick b 1 2 + sum_by room w) e in omega (arith, length_room w))
    (λ e. let s : sum_by room (c ∷ w) ≡ 2 + sum_by room w = sum_by-cons room c w ∙ ap (λ (b : Bool). pick b 1 2 + sum_by room w) e in omega (arith, length_room w))

room_fits : (c : ℕ) → room c ≤ length (encode1 c)
unfolding encode1
room_fits c = by (ltb c 0x800)
    (λ e. by (ltb c 0x80) (λ t. rw (e, t) (omega arith)) (λ t. rw (e, t) (omega arith)))
    (λ e. let l = ltb-false c 0x800 e in rw (e, le-ltb c 0x80 (omega arith)) (by (ltb c 0x10000) (λ t. rw t (omega arith)) (λ t. rw t (omega arith))))

room_bytes : (w : Word) → sum_by room w ≤ length (encode w)
room_bytes [] = omega arith
room_bytes (c ∷ w) = omega (arith, sum_by-cons room c w, room_bytes w, room_fits c, cons_size c w)

-- the row is listed, and the number is b at most
abbrev Within : ℕ → Change → Type 0
Within b c = Listed c.deed × (c.left ≤ b)

told_within : (b : ℕ) (p : Letters) (ds : List Deed) → InPlace p ds → sum_by room (whole p) ≤ b → All (Within b) (told p ds)
unfolding InPlace told row_of put
told_within b p [] h l = All-nil (Within b)
told_within b p (d ∷ ds) h l =
    let e = replaces_weight room d (whole p) (whole (play d p)) h.0 in
    let k = leb-true (sum_by room (put d)) (sum_by room (row_of d)) (row_test room_kept all_keep_room d h.0.listed) in
    let m = length_room (whole (play d p)) in
    All-cons (Within b) (record { deed = d; left = length (whole (play d p)) }) (told (play d p) ds) (h.0.listed, omega arith) (told_within b (play d p) ds h.1 (omega arith))

history_within : (w : Word) → All (Within (length (encode w))) (history w)
unfolding history
history_within w = told_within (length (encode w)) (start w) (deeds w) (plays w).1.places (room_bytes w)

pub history_short : (w : Word) → All (λ (c : Change). c.left ≤ length (encode w)) (history w)
history_short w = All-weaker (Within (length (encode w))) (λ (c : Change). c.left ≤ length (encode w)) (λ c h. h.1) (history w) (history_within w)

-- so the text of a history can be read back
pub history_readable : (w : Word) → length (encode w) < 10 ^ 64 → All Readable (history w)
history_readable w l = All-weaker (Within (length (encode w))) Readable (λ c h. (h.0, omega arith)) (history w) (history_within w)

-- ---- the cost of a deed: the length of its line with a number of three digits

abbrev row_cost : Step → Row → ℕ
row_cost s k = length (name s) + 5 * length k.letters + 5

unfoldable cost : Deed → ℕ
cost d = row_cost d.step (row_at (table_of d.step) d.row)

-- What a letter may pay for. Before item 5 a letter of 0622 to 064A pays for the line that cuts or finishes it, but for lam, which no ending has, and any other letter for its bytes.
abbrev pays_early : ℕ → ℕ
pays_early c = pick (in_range 0x622 0x64A c) (pick (eqb c lam) 0 30) (23 * length (encode1 c))

-- In item 5 one of 0622 to 0626 pays for its line.
abbrev pays_late : ℕ → ℕ
pays_late c = pick (in_range 0x622 0x626 c) 30 0

abbrev pays : Step → ℕ → ℕ
pays floating_mark = pays_early
pays normalize_pre = pays_early
pays (ending s) = pays_early
pays alef_maqsura = pays_early
pays (front s) = pays_early
pays normalize_post_last = pays_late
pays normalize_post_other = pays_late

-- what the letters of a row do not pay of its line
abbrev unpaid_front : PrefixStep → ℕ
unpaid_front prefix_step1 = 0
unpaid_front prefix_step2 = 0
unpaid_front prefix_step3a_noun = 33
unpaid_front prefix_step3b_noun = 3
unpaid_front prefix_step3_verb = 2
unpaid_front prefix_step4_verb = 37

abbrev unpaid : Step → ℕ
unpaid (front s) = unpaid_front s
unpaid alef_maqsura = 33
unpaid floating_mark = 0
unpaid normalize_pre = 0
unpaid (ending s) = 0
unpaid normalize_post_last = 0
unpaid normalize_post_other = 0

unfoldable debt : Deed → ℕ
debt d = unpaid d.step

abbrev row_paid : Step → Row → Bool
row_paid s k = leb (row_cost s k + sum_by (pays s) (put_for s k.class)) (sum_by (pays s) k.letters + unpaid s)

all_paid : every_row row_paid ≡ true
unfolding table_of name put_for gives listed_for encode1 suffix prefix replacements floating_marks A_0 A_1 A_2 A_4 A_5 A_6 A_7 A_8 A_9 A_11 A_12 A_13 A_14 A_15 A_16 A_17 A_18 A_19 A_20 A_21
all_paid = refl

-- ---- deeds that are paid by one kind of pay

abbrev PaidBy : (ℕ → ℕ) → Deed → Type 0
PaidBy f d = pays d.step ≡ f

deed_paid : (f : ℕ → ℕ) (d : Deed) → Listed d → PaidBy f d → cost d + sum_by f (put d) ≤ sum_by f (row_of d) + debt d
unfolding cost debt row_of put
deed_paid f d l e =
    let k : Row = row_at (table_of d.step) d.row in
    subst (λ (g : ℕ → ℕ). cost d + sum_by g (put d) ≤ sum_by g (row_of d) + debt d) e
    (leb-true (row_cost d.step k + sum_by (pays d.step) (put_for d.step k.class)) (sum_by (pays d.step) k.letters + unpaid d.step) (row_test row_paid all_paid d l))

places_paid : (f : ℕ → ℕ) (p : Letters) (ds : List Deed) → InPlace p ds → All (PaidBy f) ds
    → sum_by cost ds + sum_by f (whole (play_all ds p)) ≤ sum_by f (whole p) + sum_by debt ds
unfolding InPlace play_all
places_paid f p [] h a = omega arith
places_paid f p (d ∷ ds) h a =
    let r = places_paid f (play d p) ds h.1 (All-tail (PaidBy f) d ds a) in
    let e = replaces_weight f d (whole p) (whole (play d p)) h.0 in
    let k = deed_paid f d h.0.listed (All-head (PaidBy f) d ds a) in
    omega (arith, sum_by-cons cost d ds, sum_by-cons debt d ds)

paid : (f : ℕ → ℕ) (p q : Letters) (ds : List Deed) → Plays p ds q → All (PaidBy f) ds → sum_by cost ds + sum_by f (whole q) ≤ sum_by f (whole p) + sum_by debt ds
paid f p q ds h a = subst (λ (x : Letters). sum_by cost ds + sum_by f (whole x) ≤ sum_by f (whole p) + sum_by debt ds) h.makes (places_paid f p ds h.places a)

-- deeds whose letters pay for them, with no debt
abbrev PaidWhole : (ℕ → ℕ) → Deed → Type 0
PaidWhole f d = PaidBy f d × (unpaid d.step ≡ 0)

paid_whole : (f : ℕ → ℕ) (p q : Letters) (ds : List Deed) → Plays p ds q → All (PaidWhole f) ds → sum_by cost ds + sum_by f (whole q) ≤ sum_by f (whole p)
unfolding debt
paid_whole f p q ds h a =
    let k = paid f p q ds h (All-weaker (PaidWhole f) (PaidBy f) (λ d x. x.0) ds a) in
    let o = sum_by-le debt 0 ds (All-weaker (PaidWhole f) (λ (d : Deed). debt d ≤ 0) (λ d x. omega arith) ds a) in
    omega arith

-- ---- debts

keys_few : (s : Step) (w : Word) → length (keys_in s w) ≤ length w
unfolding keys_in
keys_few s [] = omega arith
keys_few s (c ∷ w) = by (is_key s c) (λ k. rw k (omega (arith, keys_few s w))) (λ k. rw k (omega (arith, keys_few s w)))

last_few : (w : Word) → length (last_of w) ≤ 1
unfolding last_of
last_few [] = omega arith
last_few (c ∷ []) = omega arith
last_few (c ∷ d ∷ w) = last_few (d ∷ w)

maqsura_debt : (y : Try Cutting) → sum_by debt (maqsura_deeds y) ≤ 33
unfolding maqsura_deeds debt
maqsura_debt (done v) = omega arith
maqsura_debt (failed v) =
    let o = sum_by-le debt 33 (keys_in alef_maqsura (last_of v.text)) (all_keys (λ (d : Deed). debt d ≤ 33) alef_maqsura (λ r l. omega arith) (last_of v.text)) in
    omega (arith, keys_few alef_maqsura (last_of v.text), last_few v.text)

one_debt : (s : PrefixStep) (ms : List Applied) → AtMostOne s ms → sum_by debt (map front_deed ms) ≤ unpaid_front s
unfolding debt
one_debt s [] unused = omega arith
one_debt s (m ∷ []) (once r h) = omega arith
one_debt s (m ∷ (_ ∷ _)) a = elim a [ ]

head_debt : (n f h : Word) (ms : List Applied) → HeadOf n f h ms → sum_by debt (map front_deed ms) ≤ 0
unfolding debt
head_debt n f h [] (no_head e) = omega arith
head_debt n f h (m ∷ []) (one_head r i rest l j two q e) = omega arith
head_debt n f h (m ∷ (_ ∷ _)) a = elim a [ ]

joined_debt : (xs ys : List Applied) → sum_by debt (map front_deed (xs ++ ys)) ≡ sum_by debt (map front_deed xs) + sum_by debt (map front_deed ys)
joined_debt xs ys = ap (sum_by debt) (map-append front_deed xs ys) ∙ sum_by-append debt (map front_deed xs) (map front_deed ys)

third_debt : (ms : List Applied) → Third ms → sum_by debt (map front_deed ms) ≤ 39
third_debt ms (third_a a) = omega (arith, one_debt prefix_step3a_noun ms a)
third_debt ms (third_b a) = omega (arith, one_debt prefix_step3b_noun ms a)
third_debt xs (third_verb {ms} {ms'} a b) = omega (arith, one_debt prefix_step3_verb ms a, one_debt prefix_step4_verb ms' b, joined_debt ms' ms)

order_debt : (n f h : Word) (ms : List Applied) → InOrder n f h ms → sum_by debt (map front_deed ms) ≤ 39
order_debt n f h ms o =
    let e : sum_by debt (map front_deed ms) ≡ sum_by debt (map front_deed (o.third ++ (o.second ++ o.first))) = ap (λ (xs : List Applied). sum_by debt (map front_deed xs)) o.all in
    omega (
      arith,
      joined_debt o.third (o.second ++ o.first),
      joined_debt o.second o.first,
      third_debt o.third o.step3,
      one_debt prefix_step2 o.second o.step2,
      head_debt n f h o.first o.step1,
    )

turned_debt : (ms : List Applied) → sum_by debt (map front_deed (reverse ms)) ≡ sum_by debt (map front_deed ms)
turned_debt [] = refl
turned_debt (m ∷ ms) =
    let e : sum_by debt (map front_deed (reverse (m ∷ ms))) ≡ sum_by debt (map front_deed (reverse ms ++ (m ∷ []))) = ap (λ (xs : List Applied). sum_by debt (map front_deed xs)) (reverse-cons m ms) in
    omega (arith, joined_debt (reverse ms) (m ∷ []), turned_debt ms, sum_by-cons debt (front_deed m) (map front_deed ms))

-- ---- all items

late_less : (c : ℕ) → pays_late c ≤ pays_early c
late_less c = by (in_range 0x622 0x626 c)
    (λ e.
    let r = in_range_lem 0x622 0x626 c e in
    rw (e, le-leb 0x622 c r.0, le-leb c 0x64A (omega arith), ne_eqb c lam (λ q. omega arith)) (omega arith))
    (λ e. rw e (omega arith))

late_sum : (w : Word) → sum_by pays_late w ≤ sum_by pays_early w
late_sum [] = omega arith
late_sum (c ∷ w) = omega (arith, sum_by-cons pays_late c w, sum_by-cons pays_early c w, late_less c, late_sum w)

early_less : (c : ℕ) → pays_early c ≤ 23 * length (encode1 c)
early_less c = by (in_range 0x622 0x64A c)
    (λ e.
    let r = in_range_lem 0x622 0x64A c e in
    let two : 2 ≤ length (encode1 c) = unfold encode1 in rw (le-ltb c 0x80 (omega arith), lt-ltb c 0x800 (omega arith)) (omega arith) in
    rw e (by (eqb c lam) (λ t. rw t (omega arith)) (λ t. rw t (omega arith))))
    (λ e. rw e (omega arith))

early_bytes : (w : Word) → sum_by pays_early w ≤ 23 * length (encode w)
early_bytes [] = omega arith
early_bytes (c ∷ w) = omega (arith, sum_by-cons pays_early c w, early_less c, early_bytes w, cons_size c w)

module _ (w : Word) where
  abbrev k : Kind
  k = kind w

  abbrev n : Word
  n = normalise w

  abbrev f : Fronting
  f = fronting (kind w) (normalise w)

  chain_paid : sum_by cost (map cut_deed (chain w)) + sum_by pays_early (cutting (kind w) (normalise w)).text ≤ sum_by pays_early (normalise w)
  chain_paid = paid_whole pays_early (start n) (start (cutting k n).text) (map cut_deed (chain w)) (plays_chain w) (All-map (PaidWhole pays_early) cut_deed (chain w) (λ i d l. (refl, refl)))

  maqsura_paid : sum_by cost (maqsura_deeds (endings (kind w) (normalise w))) + sum_by pays_early (endings_leave (kind w) (normalise w)) ≤ sum_by pays_early (cutting (kind w) (normalise w)).text + 33
  maqsura_paid =
      let a = paid pays_early (start (cutting k n).text) (start (endings_leave k n)) (maqsura_deeds (endings k n)) (plays_maqsura w) (all_maqsura (PaidBy pays_early) (λ r l. refl) (endings k n)) in
      omega (arith, maqsura_debt (endings k n))

  fronts_paid : sum_by cost (map front_deed (reverse (applied w))) + sum_by pays_early (front_text (fronting (kind w) (normalise w))) ≤ sum_by pays_early (endings_leave (kind w) (normalise w)) + 39
  fronts_paid =
      let a = paid pays_early (start (endings_leave k n)) (standing f) (map front_deed (reverse (applied w))) (plays_fronts w) (All-map (PaidBy pays_early) front_deed (reverse (applied w)) (λ i d l. refl)) in
      let e : sum_by pays_early (whole (standing f)) ≡ sum_by pays_early (front_text f) = ap (sum_by pays_early) (append_assoc f.head_letter f.passed f.rest) in
      omega (arith, turned_debt (applied w), order_debt n (front_letters w) (head_letter w) (applied w) (main_demand3 w).order)

post_paid : (w : Word) → sum_by cost (post_deeds w) ≤ sum_by pays_late w
post_paid w = omega (arith, paid_whole pays_late (start w) (start (finish w)) (post_deeds w) (plays_post w) (all_post (PaidWhole pays_late) (λ r l. (refl, refl)) (λ r l. (refl, refl)) w))

stem_cost : (w : Word) → sum_by cost (stem_deeds w) ≤ sum_by pays_early w + 72
unfolding stem_deeds
stem_cost w =
    let t : Word = front_text (fronting (kind w) (normalise w)) in
    let d4 : List Deed = map front_deed (reverse (applied w)) ++ post_deeds t in
    let d3 : List Deed = maqsura_deeds (endings (kind w) (normalise w)) ++ d4 in
    let d2 : List Deed = map cut_deed (chain w) ++ d3 in
    omega (
      arith,
      sum_by-append cost (keys_in normalize_pre w) d2,
      sum_by-append cost (map cut_deed (chain w)) d3,
      sum_by-append cost (maqsura_deeds (endings (kind w) (normalise w))) d4,
      sum_by-append cost (map front_deed (reverse (applied w))) (post_deeds t),
      paid_whole pays_early (start w) (start (normalise w)) (keys_in normalize_pre w) (plays_pre w) (all_keys (PaidWhole pays_early) normalize_pre (λ r l. (refl, refl)) w),
      chain_paid w,
      maqsura_paid w,
      fronts_paid w,
      post_paid t,
      late_sum t,
    )

deeds_cost : (w : Word) → sum_by cost (deeds w) ≤ 23 * length (encode w) + 72
unfolding deeds
deeds_cost w =
    omega (
      arith,
      sum_by-append cost (keys_in floating_mark w) (stem_deeds (unmarked w)),
      paid_whole pays_early (start w) (start (unmarked w)) (keys_in floating_mark w) (plays_marks w) (all_keys (PaidWhole pays_early) floating_mark (λ r l. (refl, refl)) w),
      stem_cost (unmarked w),
      early_bytes w,
    )

-- ---- the length of a line, and of a story

spelt_length : (w : Word) → 1 ≤ length w → length (spelt w) + 1 ≡ 5 * length w
unfolding spelt
spelt_length [] h = absurd (omega arith)
spelt_length (c ∷ []) h = refl
spelt_length (c ∷ d ∷ w) h =
    let e = spelt_length (d ∷ w) (omega arith) in
    let f : length (spelt (c ∷ d ∷ w)) ≡ 5 + length (spelt (d ∷ w)) = omega arith in
    omega arith

line_length : (c : Change) → Listed c.deed → c.left < 1000 → length (line c) ≤ cost c.deed
unfolding line cost row_of
line_length c h l =
    let s = spelt_length (row_of c.deed) (some_letter (table_of c.deed.step) (step_test (λ (s : Step). distinct (table_of s)) distinct_rows c.deed.step) c.deed.row h) in
    let d : length (decimal c.left) ≤ 3 = length-decimal-le_wide 3 c.left (omega arith) (omega arith) (omega arith) in
    omega (
      arith,
      length-append (name c.deed.step) (0x20 ∷ (spelt (row_of c.deed) ++ (0x20 ∷ (decimal c.left ++ (0x0A ∷ []))))),
      length-append (spelt (row_of c.deed)) (0x20 ∷ (decimal c.left ++ (0x0A ∷ []))),
      length-append (decimal c.left) (0x0A ∷ []),
    )

told_length : (b : ℕ) (p : Letters) (ds : List Deed) → b < 1000 → All (Within b) (told p ds) → length (text (told p ds)) ≤ sum_by cost ds
unfolding told text
told_length b p [] l a = omega arith
told_length b p (d ∷ ds) l a =
    let c : Change = record { deed = d; left = length (whole (play d p)) } in
    let h = All-head (Within b) c (told (play d p) ds) a in
    let first = line_length c h.0 (omega arith) in
    let more = told_length b (play d p) ds l (All-tail (Within b) c (told (play d p) ds) a) in
    omega (arith, sum_by-cons cost d ds, length-append (line c) (text (told (play d p) ds)))

pub story_length : (w : Word) → length (encode w) < 1000 → length (story w) ≤ 23 * length (encode w) + 72
unfolding story history
story_length w h =
    let a = told_length (length (encode w)) (start w) (deeds w) h (unfold history in history_within w) in
    omega (arith, a, deeds_cost w)
