-- Pairs of item 4 that no word shows. Assumes nothing.
use mathlib.Core.Path.{◌≡◌, refl, sym, ap, ◌∙◌, subst}
use mathlib.Core.Bool.{Bool, true, false, not}
use mathlib.Core.Logic.{◌⊎◌, inl, inr}
use mathlib.Core.List.{List, [], ◌∷◌, ◌++◌, append_assoc}
use mathlib.Core.Option.{Option, none, some}
use Prim.Native.Nat.{ℕ, zero, suc, ◌-◌, ◌≤◌}
use native.Mathlib.Omega.{arith}
use lib.Dec.{leb}
use lib.ListN.{length, take, drop, get_or}
use lib.Seq.{take-take}
use borrow.Author.Tests.{leb-true, leb-false, not-true}
use Rattle.definition.specs.Words.{Word, every, same, begins_with}
use Rattle.definition.specs.Tables.{Row, A_6, A_7, A_8, A_9}
use Rattle.definition.specs.Search.{row_at, taken}
use Rattle.definition.specs.Tries.{Step, Try, done, failed, after, if_failed, ◌then_try◌, in_turn, first_of, attempt}
use Rattle.definition.specs.Kind.{Kind, OPEN, DEFINED, if_open}
use Rattle.definition.specs.Fronts.{PrefixStep, prefix_step1, prefix_step2, prefix_step3a_noun, prefix_step3b_noun, prefix_step3_verb, prefix_step4_verb, prefix, replacements, not_at, at, front_row, replacement, Fronting, text, change, begins_with_any, apply_by, apply_unless, apply, prefix_step3_verb_in_turn, started}
use Rattle.definition.proofs.Match.{either, either_right, either_not, by, clash, same_eq, same_refl, begins_split, begins_of}
use Rattle.definition.proofs.Found.{Taken, taken_some, all_at}
use Rattle.order.specs.Order.{pair, thirds, unexchanged, exchanged, ordered, rewound, rewound_if_failed, from_here, prefix_steps_by}
use Rattle.order.proofs.Exchange.{Succeeds, Fails, Clean, first_fails, first_succeeds, one_fails}

-- ---- two keys in front of one word
begins_shorter : (w key k : Word) → begins_with w key ≡ true → begins_with w k ≡ true → length k ≤ length key → begins_with key k ≡ true
unfolding begins_with
begins_shorter w key k p q h =
    ap (λ (x : Word). same x k)
    (ap (take (length k)) (sym (same_eq (take (length key) w) key p)) ∙ take-take (length k) (length key) w h ∙ same_eq (take (length k) w) k q)
    ∙ same_refl k

begins-begins : (w key k : Word) → begins_with w key ≡ true → begins_with key k ≡ true → begins_with w k ≡ true
begins-begins w key k p q =
    begins_of w k (drop (length k) key ++ drop (length key) w)
    (begins_split w key p ∙ ap (λ (x : Word). x ++ drop (length key) w) (begins_split key k q) ∙ append_assoc k (drop (length k) key) (drop (length key) w))

-- both can stand in front of one word
abbrev pub together : Word → Word → Bool
together key k = either (begins_with key k) (begins_with k key)

pub front_fits : (w key k : Word) → begins_with w key ≡ true → begins_with w k ≡ true → together key k ≡ true
front_fits w key k p q = by (leb (length k) (length key))
    (λ t. ap (λ (b : Bool). either b (begins_with k key)) (begins_shorter w key k p q (leb-true (length k) (length key) t)))
    (λ t. either_right (begins_with key k) (begins_with k key) (begins_shorter w k key q p (omega (arith, leb-false (length k) (length key) t))))

pub any_begins : (w key : Word) (ks : List Word) → begins_with w key ≡ true → begins_with_any key ks ≡ true → begins_with_any w ks ≡ true
any_begins w key [] p q = q
any_begins w key (k ∷ ks) p q = by (begins_with key k)
    (λ t. ap (λ (b : Bool). either b (begins_with_any w ks)) (begins-begins w key k p t))
    (λ t. either_right (begins_with w k) (begins_with_any w ks) (any_begins w key ks p (rw t at q)))

-- ---- a front step takes a row, or fails and changes nothing
pub record Takes (s : PrefixStep) (f : Fronting) : Type 0 where
  pub row : ℕ
  pub taken : Taken (begins_with f.rest) (prefix s) (length (text f)) row
  pub allowed : begins_with_any f.rest (not_at s) ≡ false
  pub changes : apply s f ≡ done (change s f (at s row))

unless : (s : PrefixStep) (f : Fronting) (b : Bool) → begins_with_any f.rest (not_at s) ≡ b → apply s f ≡ apply_unless b s f
unfolding apply
unless s f b e = ap (λ (c : Bool). apply_unless c s f) e

pub takes : (s : PrefixStep) (f : Fronting) → Takes s f ⊎ Fails (apply s) f
takes s f = go (begins_with_any f.rest (not_at s)) refl
  where
    row : (o : Option ℕ) → taken (begins_with f.rest) (prefix s) (length (text f)) ≡ o → begins_with_any f.rest (not_at s) ≡ false → Takes s f ⊎ Fails (apply s) f
    row none e b = inr (unless s f false b ∙ ap (apply_by s f) e)
    row (some r) e b = inl (record {
      row = r;
      taken = taken_some (begins_with f.rest) (prefix s) (length (text f)) r e;
      allowed = b;
      changes = unless s f false b ∙ ap (apply_by s f) e;
    })

    go : (b : Bool) → begins_with_any f.rest (not_at s) ≡ b → Takes s f ⊎ Fails (apply s) f
    go true e = inr (unless s f true e)
    go false e = row (taken (begins_with f.rest) (prefix s) (length (text f))) refl e

pub apply_clean : (s : PrefixStep) (f : Fronting) → Clean (apply s) f
apply_clean s f = go (takes s f)
  where
    go : Takes s f ⊎ Fails (apply s) f → Clean (apply s) f
    go (inl t) = inl (change s f (at s t.row), t.changes)
    go (inr p) = inr p

-- ---- a cursor that goes back to where nothing was passed
rewound-same : (f : Fronting) → f.passed ≡ [] → rewound f ≡ f
rewound-same f e = λ i. record { front = f.front; head_letter = f.head_letter; passed = sym e i; rest = e i ++ f.rest; applied = f.applied }

pub here_fails : (g : Step Fronting) (f : Fronting) → f.passed ≡ [] → Fails g f → Fails (from_here g) f
here_fails g f e p = ap rewound_if_failed p ∙ ap failed (rewound-same f e)

pub here_clean : (g : Step Fronting) (f : Fronting) → f.passed ≡ [] → Clean g f → Clean (from_here g) f
here_clean g f e (inl s) = inl (s.0, ap rewound_if_failed s.1)
here_clean g f e (inr p) = inr (here_fails g f e p)

-- ---- rows that exclude each other
-- a row of Step3a_Noun and one of Step3b_Noun can stand in front of one word only where Step3b_Noun fails
apart_3a_3b : every (λ (k : Row). every (λ (m : Row). either (not (together k.letters m.letters)) (begins_with_any k.letters (not_at prefix_step3b_noun))) (prefix prefix_step3b_noun).table) (prefix prefix_step3a_noun).table ≡ true
unfolding prefix not_at A_6 A_7 begins_with same
apart_3a_3b = refl

one-noun : (f : Fronting) → Fails (apply prefix_step3a_noun) f ⊎ Fails (apply prefix_step3b_noun) f
one-noun f = go (takes prefix_step3a_noun f) (takes prefix_step3b_noun f)
  where
    go : Takes prefix_step3a_noun f ⊎ Fails (apply prefix_step3a_noun) f → Takes prefix_step3b_noun f ⊎ Fails (apply prefix_step3b_noun) f
        → Fails (apply prefix_step3a_noun) f ⊎ Fails (apply prefix_step3b_noun) f
    go (inr p) b = inl p
    go (inl a) (inr p) = inr p
    go (inl a) (inl b) =
        let k : Row = row_at (prefix prefix_step3a_noun).table a.row in
        let m : Row = row_at (prefix prefix_step3b_noun).table b.row in
        let x = all_at _ (prefix prefix_step3b_noun).table (all_at _ (prefix prefix_step3a_noun).table apart_3a_3b a.row a.taken.inside) b.row b.taken.inside in
        let y = either_not (together k.letters m.letters) _ (front_fits f.rest k.letters m.letters a.taken.matches b.taken.matches) x in
        absurd (clash (any_begins f.rest k.letters (not_at prefix_step3b_noun) a.taken.matches y) b.allowed)

-- no row of Step3b_Noun stands in front of one word with a row of the verb's fronts
abbrev apart_fronts : PrefixStep → PrefixStep → Bool
apart_fronts s t = every (λ (k : Row). every (λ (m : Row). not (together k.letters m.letters)) (prefix t).table) (prefix s).table

apart_3b_3v : apart_fronts prefix_step3b_noun prefix_step3_verb ≡ true
unfolding prefix A_7 A_8 begins_with same
apart_3b_3v = refl

apart_3b_4v : apart_fronts prefix_step3b_noun prefix_step4_verb ≡ true
unfolding prefix A_7 A_9 begins_with same
apart_3b_4v = refl

other_fails : (s t : PrefixStep) → apart_fronts s t ≡ true → (f : Fronting) → Takes s f → Fails (apply t) f
other_fails s t c f a = go (takes t f)
  where
    go : Takes t f ⊎ Fails (apply t) f → Fails (apply t) f
    go (inr p) = p
    go (inl b) =
        let k : Row = row_at (prefix s).table a.row in
        let m : Row = row_at (prefix t).table b.row in
        let x = all_at _ (prefix t).table (all_at _ (prefix s).table c a.row a.taken.inside) b.row b.taken.inside in
        absurd (clash (front_fits f.rest k.letters m.letters a.taken.matches b.taken.matches) (not-true (together k.letters m.letters) x))

-- nor with what Step3_Verb puts for a row
apart_new : every (λ (k : Row). every (λ (m : Row). not (together (get_or (replacements prefix_step3_verb) (k.class - 1) []) m.letters)) (prefix prefix_step3b_noun).table) (prefix prefix_step3_verb).table ≡ true
unfolding prefix replacements A_7 A_8 begins_with same
apart_new = refl

-- ---- the places of item 4
unfoldable pub third_from : Word → Fronting
third_from n = after (apply prefix_step2 (after (apply prefix_step1 (started n))))

no_new : (i : ℕ) → get_or {A = Word} ([] ∷ [] ∷ []) i [] ≡ []
no_new zero = refl
no_new (suc zero) = refl
no_new (suc (suc i)) = refl

stays_bare : (s : PrefixStep) → ((f : Fronting) (r : ℕ) → f.passed ≡ [] → (change s f (at s r)).passed ≡ [])
    → (f : Fronting) → f.passed ≡ [] → (after (apply s f)).passed ≡ []
stays_bare s h f e = go (takes s f)
  where
    go : Takes s f ⊎ Fails (apply s) f → (after (apply s f)).passed ≡ []
    go (inl t) = ap (λ (x : Try Fronting). (after x).passed) t.changes ∙ h f t.row e
    go (inr p) = ap (λ (x : Try Fronting). (after x).passed) p ∙ e

-- nothing is passed before Step3
pub bare : (n : Word) → (third_from n).passed ≡ []
unfolding third_from started change replacement replacements
bare n =
    stays_bare prefix_step2 (λ f r e. λ i. e i ++ no_new ((row_at (prefix prefix_step2).table r).class - 1) i) (after (apply prefix_step1 (started n)))
    (stays_bare prefix_step1 (λ f r e. e) (started n) refl)

abbrev pub verb-fronts : Kind → Step Fronting
verb-fronts k = if_open k (in_turn prefix_step3_verb_in_turn)

-- Step3a_Noun | Step3b_Noun
pub thirds_0 : (k : Kind) (n : Word) → prefix_steps_by (pair thirds 0) k (started n) ≡ prefix_steps_by unexchanged k (started n)
unfolding prefix_steps_by ordered exchanged ◌then_try◌ attempt third_from
thirds_0 k n = go (one-noun (third_from n))
  where
    go : Fails (apply prefix_step3a_noun) (third_from n) ⊎ Fails (apply prefix_step3b_noun) (third_from n)
        → first_of (from_here (apply prefix_step3b_noun) ∷ from_here (apply prefix_step3a_noun) ∷ from_here (verb-fronts k) ∷ []) (third_from n)
        ≡ first_of (from_here (apply prefix_step3a_noun) ∷ from_here (apply prefix_step3b_noun) ∷ from_here (verb-fronts k) ∷ []) (third_from n)
    go (inl p) = sym (one_fails (from_here (apply prefix_step3a_noun)) (from_here (apply prefix_step3b_noun)) (from_here (verb-fronts k) ∷ []) (third_from n)
        (here_fails (apply prefix_step3a_noun) (third_from n) (bare n) p) (here_clean (apply prefix_step3b_noun) (third_from n) (bare n) (apply_clean prefix_step3b_noun (third_from n))))
    go (inr p) = one_fails (from_here (apply prefix_step3b_noun)) (from_here (apply prefix_step3a_noun)) (from_here (verb-fronts k) ∷ []) (third_from n)
        (here_fails (apply prefix_step3b_noun) (third_from n) (bare n) p) (here_clean (apply prefix_step3a_noun) (third_from n) (bare n) (apply_clean prefix_step3a_noun (third_from n)))

-- ---- Step3b_Noun | the verb's fronts
module _ (n : Word) where
  abbrev f : Fronting
  f = third_from n

  abbrev a : Step Fronting
  a = from_here (apply prefix_step3a_noun)

  abbrev b : Step Fronting
  b = from_here (apply prefix_step3b_noun)

  b_clean : Clean b f
  b_clean = here_clean (apply prefix_step3b_noun) f (bare n) (apply_clean prefix_step3b_noun f)

  -- where Step3b_Noun takes a row, the verb's fronts fail
  verb_fails : (k : Kind) → Takes prefix_step3b_noun f → Fails (verb-fronts k) f
  unfolding ◌then_try◌ attempt
  verb_fails DEFINED t = refl
  verb_fails OPEN t =
      ap (λ (x : Try Fronting). apply prefix_step4_verb (after x)) (other_fails prefix_step3b_noun prefix_step3_verb apart_3b_3v f t)
      ∙ other_fails prefix_step3b_noun prefix_step4_verb apart_3b_4v f t

  -- where Step3b_Noun fails, it fails too behind what Step3_Verb has put
  fails_behind : Fails (apply prefix_step3b_noun) f → Takes prefix_step3_verb f ⊎ Fails (apply prefix_step3_verb) f
      → Fails (apply prefix_step3b_noun) (rewound (after (apply prefix_step3_verb f)))
  unfolding change replacement
  fails_behind p (inr q) =
      subst (Fails (apply prefix_step3b_noun)) (sym (ap (λ (x : Try Fronting). rewound (after x)) q ∙ rewound-same f (bare n))) p
  fails_behind p (inl t) = subst (λ (x : Try Fronting). Fails (apply prefix_step3b_noun) (rewound (after x))) (sym t.changes) (go (takes prefix_step3b_noun h))
    where
      h : Fronting
      h = rewound (change prefix_step3_verb f (at prefix_step3_verb t.row))

      go : Takes prefix_step3b_noun h ⊎ Fails (apply prefix_step3b_noun) h → Fails (apply prefix_step3b_noun) h
      go (inr q) = q
      go (inl u) =
          let new : Word = get_or (replacements prefix_step3_verb) ((row_at (prefix prefix_step3_verb).table t.row).class - 1) [] in
          let m : Word = (row_at (prefix prefix_step3b_noun).table u.row).letters in
          let d : Word = drop (length (front_row (at prefix_step3_verb t.row))) f.rest in
          let x = all_at _ (prefix prefix_step3b_noun).table (all_at _ (prefix prefix_step3_verb).table apart_new t.row t.taken.inside) u.row u.taken.inside in
          let y : begins_with h.rest new ≡ true = begins_of h.rest new d (λ i. (bare n i ++ new) ++ d) in
          absurd (clash (front_fits h.rest new m y u.taken.matches) (not-true (together new m) x))

  -- what stands after the two orders of Step3b_Noun and the verb's fronts
  same_text : (k : Kind) → Takes prefix_step3b_noun f ⊎ Fails (apply prefix_step3b_noun) f
      → text (after (first_of (from_here (verb-fronts k) ∷ b ∷ []) f)) ≡ text (after (first_of (b ∷ from_here (verb-fronts k) ∷ []) f))
  unfolding first_of ◌then_try◌ attempt
  same_text k (inl t) = ap (λ (x : Try Fronting). text (after x))
      (one_fails (from_here (verb-fronts k)) b [] f (here_fails (verb-fronts k) f (bare n) (verb_fails k t)) b_clean)
  same_text DEFINED (inr p) = ap (λ (x : Try Fronting). text (after x))
      (one_fails (from_here (verb-fronts DEFINED)) b [] f (here_fails (verb-fronts DEFINED) f (bare n) refl) b_clean)
  same_text OPEN (inr p) = go (apply_clean prefix_step4_verb h)
    where
      h : Fronting
      h = after (apply prefix_step3_verb f)

      go : Clean (apply prefix_step4_verb) h
          → text (after (first_of (from_here (verb-fronts OPEN) ∷ b ∷ []) f)) ≡ text (after (first_of (b ∷ from_here (verb-fronts OPEN) ∷ []) f))
      go (inl s) =
          let v : Succeeds (from_here (verb-fronts OPEN)) f = (s.0, ap rewound_if_failed s.1) in
          ap (λ (x : Try Fronting). text (after x))
          (first_succeeds (from_here (verb-fronts OPEN)) (b ∷ []) f v
          ∙ sym (first_fails b (from_here (verb-fronts OPEN) ∷ []) f (here_fails (apply prefix_step3b_noun) f (bare n) p) ∙ first_succeeds (from_here (verb-fronts OPEN)) [] f v))
      go (inr q) =
          let v : from_here (verb-fronts OPEN) f ≡ failed (rewound h) = ap rewound_if_failed q in
          let z : Fails b (rewound h) = here_fails (apply prefix_step3b_noun) (rewound h) refl (fails_behind p (takes prefix_step3_verb f)) in
          ap (λ (x : Try Fronting). text (after x))
          (ap (λ (x : Try Fronting). if_failed x (first_of (b ∷ []))) v ∙ first_fails b [] (rewound h) z
          ∙ sym (first_fails b (from_here (verb-fronts OPEN) ∷ []) f (here_fails (apply prefix_step3b_noun) f (bare n) p) ∙ ap (λ (x : Try Fronting). if_failed x (first_of [])) v))

  -- both orders behind Step3a_Noun
  behind_3a : (gs hs : List (Step Fronting)) → text (after (first_of gs f)) ≡ text (after (first_of hs f))
      → text (after (first_of (a ∷ gs) f)) ≡ text (after (first_of (a ∷ hs) f))
  behind_3a gs hs e = go (here_clean (apply prefix_step3a_noun) f (bare n) (apply_clean prefix_step3a_noun f))
    where
      go : Clean a f → text (after (first_of (a ∷ gs) f)) ≡ text (after (first_of (a ∷ hs) f))
      go (inl s) = ap (λ (x : Try Fronting). text (after x)) (first_succeeds a gs f s ∙ sym (first_succeeds a hs f s))
      go (inr p) =
          ap (λ (x : Try Fronting). text (after x)) (first_fails a gs f p) ∙ e ∙ sym (ap (λ (x : Try Fronting). text (after x)) (first_fails a hs f p))

pub thirds_1 : (k : Kind) (n : Word) → text (after (prefix_steps_by (pair thirds 1) k (started n))) ≡ text (after (prefix_steps_by unexchanged k (started n)))
unfolding prefix_steps_by ordered exchanged ◌then_try◌ attempt third_from
thirds_1 k n = behind_3a n _ _ (same_text n k (takes prefix_step3b_noun (third_from n)))
