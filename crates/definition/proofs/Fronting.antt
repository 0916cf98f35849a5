-- The fronts: what they take is a prefix, in item 4's order; of what stays one letter at most is changed. Assumes nothing.
use mathlib.Core.Path.{◌≡◌, refl, sym, ap, ◌∙◌, subst}
use mathlib.Core.Bool.{Bool, true, false, false≢true}
use mathlib.Core.List.{List, [], ◌∷◌, ◌++◌, append_assoc, append-nil}
use mathlib.Core.Option.{Option, none, some}
use Prim.Native.Nat.{ℕ, suc, ◌+◌, ◌-◌, ◌*◌, ◌≤◌, ◌<◌, min}
use native.Mathlib.Omega.{arith}
use lib.ListN.{length, take, drop, get_or, set, length-append, take-append-drop, get_or-append}
use lib.Seq.{length-take-le, set-append_seam, get_or-append_seam}
use Rattle.definition.specs.Letters.{alef}
use Rattle.definition.specs.Words.{Word, pick, begins_with}
use Rattle.definition.specs.Tables.{A_4}
use Rattle.definition.specs.Search.{row_at, least_letters, taken}
use Rattle.definition.specs.Tries.{in_turn, first_of, attempt}
use Rattle.definition.specs.Kind.{Kind, if_open}
use Rattle.definition.specs.Fronts.{PrefixStep, prefix_step1, prefix_step2, prefix_step3a_noun, prefix_step3b_noun, prefix_step3_verb, prefix_step4_verb, prefix, not_at, Applied, at, front_row, replacement, unreplaced, Fronting, text, passing, change, begins_with_any, apply_by, apply_unless, apply, prefix_step3_verb_in_turn, prefix_step3_choices, prefix_steps, started, fronts}
use Rattle.definition.specs.Demand3.{to_front, front_of, AtMostOne, unused, once, HeadOf, no_head, one_head, Third, third_a, third_b, third_verb, InOrder, is_applied, place}
use Rattle.definition.proofs.Match.{empty, begins_split}
use Rattle.definition.proofs.Found.{Taken, taken_some}
use Rattle.definition.proofs.Triples.{Ends, Does, ends-after, does_then, does_or, does_last, does_attempt, does_if}
use Rattle.definition.proofs.FrontRows.{PassRows, pass_2, pass_3a, pass_3b, pass_3v, passes, new_2, new_3v, new_length, heads, Verbal, fours}

-- ---- the head letter stays the same letter where the front grows
pub head_in : (n front x head_letter : Word) {ms : List Applied} → n ≡ front ++ x → HeadOf front front head_letter ms → HeadOf n front head_letter ms
head_in n front x head_letter e (no_head q) = no_head q
head_in n front x head_letter e (one_head r i rest h l two f q) =
    let lf : length front ≡ length (row_at A_4 r).letters + length rest = ap length f ∙ length-append (row_at A_4 r).letters rest in
    let inside : i < length front = omega arith in
    one_head r i rest h l two f (q ∙ ap (λ (c : ℕ). c ∷ []) (sym (ap (λ (y : Word). get_or y i 0) e ∙ get_or-append front x 0 i inside)))

head_more : (n front more head_letter : Word) {ms : List Applied} → HeadOf n front head_letter ms → HeadOf n (front ++ more) head_letter ms
head_more n front more head_letter (no_head q) = no_head q
head_more n front more head_letter (one_head r i rest h l two f q) =
    one_head r i (rest ++ more) h l two (ap (λ (y : Word). y ++ more) f ∙ append_assoc (row_at A_4 r).letters rest more) q

head_on : (front more head_letter : Word) {ms : List Applied} → HeadOf front front head_letter ms → HeadOf (front ++ more) (front ++ more) head_letter ms
head_on front more head_letter h = head_more (front ++ more) front more head_letter (head_in (front ++ more) front more head_letter refl h)

-- ---- what holds on the way. At most g letters are gone.
record Way (s : Word) (g : ℕ) (f : Fronting) : Type 0 where
  whole : s ≡ f.front ++ (f.passed ++ f.rest)
  enough : 3 * min 1 (length f.front) ≤ length f.head_letter + (length f.passed + length f.rest)
  gone : length f.front ≤ length f.head_letter + g
  fronts : f.front ≡ front_of f.applied
  no4 : is_applied prefix_step4_verb f.applied ≡ false

-- before Step3: nothing is passed yet
record Early (s : Word) (g : ℕ) (f : Fronting) : Type 0 where
  way : Way s g f
  bare : f.passed ≡ []
  no3 : is_applied prefix_step3_verb f.applied ≡ false
  first : List Applied
  second : List Applied
  step1 : HeadOf f.front f.front f.head_letter first
  step2 : AtMostOne prefix_step2 second
  all : f.applied ≡ second ++ first

-- after Step3_Verb: only what it replaced is passed
record Late (s : Word) (g : ℕ) (f : Fronting) : Type 0 where
  way : Way s g f
  passed : length f.passed ≡ place f.applied
  first : List Applied
  second : List Applied
  third : List Applied
  step1 : HeadOf f.front f.front f.head_letter first
  step2 : AtMostOne prefix_step2 second
  step3 : AtMostOne prefix_step3_verb third
  all : f.applied ≡ third ++ (second ++ first)

-- Step4_Verb's letter of the run, with two letters behind it
pub record Fourth (ms : List Applied) (run : Word) : Type 0 where
  pub letter : Verbal (get_or run (place ms) 0)
  pub early : place ms + 2 < length run

-- what Step4_Verb makes of the run
unfoldable pub fourth : List Applied → Word → Word
fourth ms run = pick (is_applied prefix_step4_verb ms) (set run (place ms) alef) run

-- at the end
pub record Fronted (s : Word) (f : Fronting) : Type 0 where
  pub run : Word
  pub whole : s ≡ f.front ++ run
  pub stays : text f ≡ f.head_letter ++ fourth f.applied run
  pub enough : 3 * min 1 (length f.front) ≤ length f.head_letter + length run
  pub gone : length f.front ≤ length f.head_letter + 5
  pub fronts : f.front ≡ front_of f.applied
  pub order : InOrder f.front f.front f.head_letter f.applied
  pub four : is_applied prefix_step4_verb f.applied ≡ true → Fourth f.applied run

text-length : (f : Fronting) → length (text f) ≡ length f.head_letter + (length f.passed + length f.rest)
text-length f = length-append f.head_letter (f.passed ++ f.rest) ∙ ap (λ (n : ℕ). length f.head_letter + n) (length-append f.passed f.rest)

-- ---- any step
module _ (Q R : Fronting → Type 0) (st : PrefixStep) (f : Fronting) where
  step-ends : R f → ((r : ℕ) → Taken (begins_with f.rest) (prefix st) (length (text f)) r → Q (change st f (at st r))) → Ends Q R (apply st f)
  unfolding apply
  step-ends n y = bar (begins_with_any f.rest (not_at st))
    where
      go : (o : Option ℕ) → taken (begins_with f.rest) (prefix st) (length (text f)) ≡ o → Ends Q R (apply_by st f o)
      go none q = n
      go (some r) q = y r (taken_some (begins_with f.rest) (prefix st) (length (text f)) r q)

      bar : (b : Bool) → Ends Q R (apply_unless b st f)
      bar true = n
      bar false = go (taken (begins_with f.rest) (prefix st) (length (text f))) refl

-- ---- a step that passes its replacement
module _ (s : Word) (g most : ℕ) (st : PrefixStep) (p : PassRows most st) (f : Fronting) (r : ℕ)
    (tk : Taken (begins_with f.rest) (prefix st) (length (text f)) r) (b : Early s g f) where
  abbrev m : Applied
  m = at st r

  abbrev j : ℕ
  j = length (front_row m) - length (replacement m)

  split : f.rest ≡ front_row m ++ drop (length (front_row m)) f.rest
  unfolding front_row
  split = begins_split f.rest (front_row m) tk.matches

  passed-way : to_front st m ≡ unreplaced m → is_applied prefix_step4_verb (m ∷ f.applied) ≡ is_applied prefix_step4_verb f.applied
      → Way s (g + most) (passing f m)
  unfolding front_of
  passed-way tf n4 =
      let ps = passes most st p r tk.inside in
      let after : Word = drop (length (front_row m)) f.rest in
      let lr : length f.rest ≡ length (front_row m) + length after = ap length split ∙ length-append (front_row m) after in
      let lt : length (take j (front_row m)) ≡ j = length-take-le j (front_row m) (omega arith) in
      let cut : front_row m ≡ take j (front_row m) ++ replacement m =
      sym (take-append-drop j (front_row m)) ∙ ap (λ (x : Word). take j (front_row m) ++ x) ps.tail in
      let lb : length f.passed ≡ 0 = ap length b.bare in
      let lp : length (f.passed ++ replacement m) ≡ length f.passed + length (replacement m) = length-append f.passed (replacement m) in
      let lf : length (f.front ++ take j (front_row m)) ≡ length f.front + length (take j (front_row m)) = length-append f.front (take j (front_row m)) in
      let lx = text-length f in
      let en : least_letters (prefix st).guards (row_at (prefix st).table r).class ≤ length (text f) = tk.enough in
      let gone = b.way.gone in
      record {
        whole = b.way.whole
            ∙ (λ i. f.front ++ (b.bare i ++ split i))
            ∙ (λ i. f.front ++ (cut i ++ after))
            ∙ ap (λ (x : Word). f.front ++ x) (append_assoc (take j (front_row m)) (replacement m) after)
            ∙ sym (append_assoc f.front (take j (front_row m)) (replacement m ++ after))
            ∙ (λ i. (f.front ++ take j (front_row m)) ++ ((sym b.bare i ++ replacement m) ++ after));
        enough = omega arith;
        gone = omega arith;
        fronts = (λ i. b.way.fronts i ++ sym tf i);
        no4 = n4 ∙ b.way.no4;
      }

  -- where it is the last step
  last_fronted : g + most ≤ 5 → to_front st m ≡ unreplaced m → is_applied prefix_step4_verb (m ∷ f.applied) ≡ is_applied prefix_step4_verb f.applied
      → Third (m ∷ []) → Fronted s (passing f m)
  unfolding fourth
  last_fronted l tf n4 t =
      let w = passed-way tf n4 in
      record {
        run = (passing f m).passed ++ (passing f m).rest;
        whole = w.whole;
        stays = rw w.no4 refl;
        enough = rw (length-append (passing f m).passed (passing f m).rest) w.enough;
        gone = omega (arith, w.gone);
        fronts = w.fronts;
        order = record {
          first = b.first;
          second = b.second;
          third = m ∷ [];
          step1 = head_on f.front (take j (front_row m)) f.head_letter b.step1;
          step2 = b.step2;
          step3 = t;
          all = ap (λ (x : List Applied). m ∷ x) b.all;
        };
        four = λ e. absurd (false≢true (sym w.no4 ∙ e));
      }

module _ (s : Word) where
  way-more : (g h : ℕ) (f : Fronting) → g ≤ h → Way s g f → Way s h f
  way-more g h f l w = record { whole = w.whole; enough = w.enough; gone = omega (arith, w.gone); fronts = w.fronts; no4 = w.no4 }

  -- no change by the last steps
  late_fronted : (f : Fronting) → Late s 3 f → Fronted s f
  unfolding fourth
  late_fronted f v = record {
    run = f.passed ++ f.rest;
    whole = v.way.whole;
    stays = rw v.way.no4 refl;
    enough = rw (length-append f.passed f.rest) v.way.enough;
    gone = omega (arith, v.way.gone);
    fronts = v.way.fronts;
    order = record {
      first = v.first;
      second = v.second;
      third = v.third;
      step1 = v.step1;
      step2 = v.step2;
      step3 = third_verb v.step3 unused;
      all = v.all;
    };
    four = λ e. absurd (false≢true (sym v.way.no4 ∙ e));
  }

  early_late : (f : Fronting) → Early s 2 f → Late s 3 f
  unfolding place
  early_late f b = record {
    way = way-more 2 3 f (omega arith) b.way;
    passed = ap length b.bare ∙ ap (λ (t : Bool). pick t 1 0) (sym b.no3);
    first = b.first;
    second = b.second;
    third = [];
    step1 = b.step1;
    step2 = b.step2;
    step3 = unused;
    all = b.all;
  }

  early_fronted : (f : Fronting) → Early s 2 f → Fronted s f
  early_fronted f b = late_fronted f (early_late f b)

  abbrev First : Fronting → Type 0
  First f = (b : Early s 1 f) × (b.second ≡ [])

  does_1 : Ends First First (apply prefix_step1 (started s))
  unfolding started change front_of to_front is_applied
  does_1 = step-ends First First prefix_step1 (started s) (
    record {
      way = record { whole = refl; enough = omega arith; gone = omega arith; fronts = refl; no4 = refl };
      bare = refl;
      no3 = refl;
      first = [];
      second = [];
      step1 = no_head refl;
      step2 = unused;
      all = refl;
    },
    refl,
  )
      (λ r tk.
      let m : Applied = at prefix_step1 r in
      let hs = heads r tk.inside in
      let after : Word = drop (length (front_row m)) s in
      let sp : s ≡ front_row m ++ after = begins_split s (front_row m) (unfold front_row in tk.matches) in
      let ls : length s ≡ length (front_row m) + length after = ap length sp ∙ length-append (front_row m) after in
      let en = tk.enough in
      let two = hs.two in
      let four = hs.four in
      let ln : length (replacement m) ≡ 1 = ap length hs.kept.2 in (
        record {
          way = record { whole = sp; enough = omega arith; gone = omega arith; fronts = refl; no4 = refl };
          bare = refl;
          no3 = refl;
          first = m ∷ [];
          second = [];
          step1 = unfold prefix front_row in one_head r hs.kept.0 [] tk.inside hs.kept.1 hs.two (sym (append-nil (front_row m))) hs.kept.2;
          step2 = unused;
          all = refl;
        },
        refl,
      ))

  does_2 : Does First (Early s 2) (Early s 2) (apply prefix_step2)
  unfolding change to_front is_applied
  does_2 f b = step-ends (Early s 2) (Early s 2) prefix_step2 f
      (record {
        way = way-more 1 2 f (omega arith) b.0.way;
        bare = b.0.bare;
        no3 = b.0.no3;
        first = b.0.first;
        second = b.0.second;
        step1 = b.0.step1;
        step2 = b.0.step2;
        all = b.0.all;
      })
      (λ r tk.
      let m : Applied = at prefix_step2 r in
      record {
        way = passed-way s 1 1 prefix_step2 pass_2 f r tk b.0 refl refl;
        bare = (λ i. b.0.bare i ++ empty (replacement m) (new_length 0 prefix_step2 new_2 r tk.inside) i);
        no3 = b.0.no3;
        first = b.0.first;
        second = m ∷ [];
        step1 = head_on f.front (unreplaced m) f.head_letter b.0.step1;
        step2 = once r tk.inside;
        all = ap (λ (x : List Applied). m ∷ x) (b.0.all ∙ ap (λ (x : List Applied). x ++ b.0.first) b.1);
      })

  does_3a : Does (Early s 2) (Fronted s) (Early s 2) (apply prefix_step3a_noun)
  unfolding change to_front is_applied
  does_3a f b = step-ends (Fronted s) (Early s 2) prefix_step3a_noun f b
      (λ r tk. last_fronted s 2 3 prefix_step3a_noun pass_3a f r tk b (omega arith) refl refl (third_a (once r tk.inside)))

  does_3b : Does (Early s 2) (Fronted s) (Early s 2) (apply prefix_step3b_noun)
  unfolding change to_front is_applied
  does_3b f b = step-ends (Fronted s) (Early s 2) prefix_step3b_noun f b
      (λ r tk. last_fronted s 2 1 prefix_step3b_noun pass_3b f r tk b (omega arith) refl refl (third_b (once r tk.inside)))

  does_3v : Does (Early s 2) (Late s 3) (Late s 3) (apply prefix_step3_verb)
  unfolding change to_front is_applied place
  does_3v f b = step-ends (Late s 3) (Late s 3) prefix_step3_verb f (early_late f b)
      (λ r tk.
      let m : Applied = at prefix_step3_verb r in
      record {
        way = passed-way s 2 1 prefix_step3_verb pass_3v f r tk b refl refl;
        passed = ap (λ (x : Word). length (x ++ replacement m)) b.bare ∙ new_length 1 prefix_step3_verb new_3v r tk.inside;
        first = b.first;
        second = b.second;
        third = m ∷ [];
        step1 = head_on f.front (unreplaced m) f.head_letter b.step1;
        step2 = b.step2;
        step3 = once r tk.inside;
        all = ap (λ (x : List Applied). m ∷ x) b.all;
      })

  -- Step4_Verb takes nothing, and changes one letter of the run
  does_4 : Does (Late s 3) (Fronted s) (Fronted s) (apply prefix_step4_verb)
  unfolding change to_front front_of is_applied fourth place
  does_4 f v = step-ends (Fronted s) (Fronted s) prefix_step4_verb f (late_fronted f v)
      (λ r tk.
      let m : Applied = at prefix_step4_verb r in
      let fs = fours r tk.inside in
      let u : Word = fs.others in
      let d : Word = drop (length (front_row m)) f.rest in
      let sp : f.rest ≡ front_row m ++ d = begins_split f.rest (front_row m) (unfold front_row in tk.matches) in
      let rs : f.rest ≡ fs.first ∷ (u ++ d) = sp ∙ ap (λ (x : Word). x ++ d) fs.key_is in
      let lk : length (front_row m) ≡ suc (length u) = ap length fs.key_is in
      let ln : length (replacement m) ≡ suc (length u) = ap length fs.new_is in
      let z : length (front_row m) - length (replacement m) ≡ 0 = omega arith in
      let fr : f.front ++ unreplaced m ≡ f.front = ap (λ (n : ℕ). f.front ++ take n (front_row m)) z ∙ append-nil f.front in
      let lf : length (f.front ++ unreplaced m) ≡ length f.front = ap length fr in
      let lr : length f.rest ≡ suc (length (u ++ d)) = ap length rs in
      let lu : length (u ++ d) ≡ length u + length d = length-append u d in
      let lw : length (f.passed ++ f.rest) ≡ length f.passed + length f.rest = length-append f.passed f.rest in
      let there : get_or (f.passed ++ f.rest) (place f.applied) 0 ≡ fs.first =
      (λ i. get_or (f.passed ++ rs i) (sym v.passed i) 0) ∙ get_or-append_seam f.passed fs.first (u ++ d) 0 in
      let en = v.way.enough in
      let go = v.way.gone in
      let tw = fs.two in
      let pl = v.passed in
      record {
        run = f.passed ++ f.rest;
        whole = v.way.whole ∙ (λ i. sym fr i ++ (f.passed ++ f.rest));
        stays = ap (λ (x : Word). f.head_letter ++ x) (
            (λ i. (f.passed ++ fs.new_is i) ++ d)
            ∙ append_assoc f.passed (alef ∷ u) d
            ∙ sym (set-append_seam f.passed fs.first (u ++ d) alef)
            ∙ (λ i. set (f.passed ++ sym rs i) (v.passed i) alef));
        enough = rw (lf, lw) en;
        gone = omega arith;
        fronts = (λ i. v.way.fronts i ++ unreplaced m);
        order = record {
          first = v.first;
          second = v.second;
          third = m ∷ v.third;
          step1 = head_on f.front (unreplaced m) f.head_letter v.step1;
          step2 = v.step2;
          step3 = third_verb v.step3 (once r tk.inside);
          all = ap (λ (x : List Applied). m ∷ x) v.all;
        };
        four = λ e. record { letter = subst Verbal (sym there) fs.letter; early = omega arith };
      })

  pub fronts-done : (k : Kind) → Fronted s (fronts k s)
  unfolding fronts prefix_steps
  fronts-done k = ends-after (Fronted s) (prefix_steps k (started s)) (
      does_then (λ (f : Fronting). f ≡ started s) (Fronted s) (Fronted s) First (attempt (apply prefix_step1)) _
      (does_attempt (λ (f : Fronting). f ≡ started s) First (Fronted s) (apply prefix_step1)
      (λ f e. subst (λ (x : Fronting). Ends First First (apply prefix_step1 x)) (sym e) does_1))
      (does_then First (Fronted s) (Fronted s) (Early s 2) (attempt (apply prefix_step2)) (first_of (prefix_step3_choices k (in_turn prefix_step3_verb_in_turn)))
      (does_attempt First (Early s 2) (Fronted s) (apply prefix_step2) does_2)
      (does_or (Early s 2) (Fronted s) (Fronted s) (Early s 2) (apply prefix_step3a_noun) _ does_3a
      (does_or (Early s 2) (Fronted s) (Fronted s) (Early s 2) (apply prefix_step3b_noun) _ does_3b
      (does_or (Early s 2) (Fronted s) (Fronted s) (Fronted s) (if_open k (in_turn prefix_step3_verb_in_turn)) []
      (does_if (Early s 2) (Fronted s) (Fronted s) k (in_turn prefix_step3_verb_in_turn)
      (does_then (Early s 2) (Fronted s) (Fronted s) (Late s 3) (attempt (apply prefix_step3_verb)) (apply prefix_step4_verb)
      (does_attempt (Early s 2) (Late s 3) (Fronted s) (apply prefix_step3_verb) does_3v) does_4)
      early_fronted)
      (does_last (Fronted s) (Fronted s))))))
      (started s) refl)
