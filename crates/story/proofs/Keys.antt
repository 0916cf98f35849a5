-- The loop that writes a line for each letter that is a key. Assumes nothing.
use mathlib.Core.Path.{◌≡◌, refl, sym, ap, ◌∙◌, subst}
use mathlib.Core.Bool.{Bool, true, false}
use mathlib.Core.List.{List, [], ◌∷◌, ◌++◌, append_assoc, append-nil}
use Prim.Native.Nat.{ℕ, ◌+◌, ◌-◌, ◌≤◌, ◌<◌}
use native.Mathlib.Omega.{arith}
use lib.ListN.{length, take, drop}
use lib.Seq.{take-append_seam}
use Rattle.std.specs.Prelude.{Option as Maybe, Some, None}
use Rattle.definition.specs.Words.{Word, pick}
use Rattle.definition.proofs.Match.{by}
use Rattle.utf8.specs.Utf8.{Scalars, encode, encode1}
use Rattle.utf8.specs.Letters.{Read}
use Rattle.utf8.specs.declared.letters.Letter.{Letter}
use Rattle.utf8.proofs.Ahead as ahead
use Rattle.utf8.proofs.Ahead.{Ahead, Next}
use Rattle.utf8.proofs.Text.{encode_one}
use Rattle.history.specs.Steps.{Step, Deed, row_of, put}
use Rattle.history.specs.Steps.{by as deed_by}
use Rattle.history.specs.History.{row_for, is_key, keys_in}
use Rattle.story.specs.declared.page.Page.{Page}
use Rattle.story.specs.Telling.{Tells, Fits, IsDeed, puts_for, KeysOf}
use Rattle.history.proofs.Keys.{key_row}
use Rattle.story.proofs.Lines.{tells_none, tells_both, fits_first, fits_second}

-- ---- the loop, for the step s
pub record Inv (text : List ℕ) (old : Page) (s : Step) (i : ℕ) (page : Page) : Type 0 where
  pub to : Ahead text text i
  pub so_far : List Deed
  pub tells : Tells old so_far page
  pub split : keys_in s to.word ≡ so_far ++ keys_in s to.rest
  pub fits : Fits old (keys_in s to.word)

some_not_none : {n : ℕ} → Some n ≡ None → ⊥
some_not_none e = cc

module _ {answers : ℕ → Maybe ℕ → Type 0} {step_name text : List ℕ} {old : Page} {s : Step} {w : Word} (k : KeysOf answers step_name text old s w) where
  pub start : Inv text old s 0 old
  start = record { to = ahead.start text w k.encodes; so_far = []; tells = tells_none old; split = refl; fits = k.fits }

  module _ {i : ℕ} {page : Page} (v : Inv text old s i page) where
    pub done : length text ≤ i → Tells old (keys_in s w) page
    unfolding keys_in
    done h =
        let all : v.so_far ≡ keys_in s w = sym (append-nil v.so_far) ∙ ap (λ (t : Word). v.so_far ++ keys_in s t) (sym (ahead.none_left v.to h)) ∙ sym v.split ∙ ap (keys_in s) (ahead.only v.to w k.encodes) in
        subst (λ (ds : List Deed). Tells old ds page) all v.tells

    module _ (h : i < length text) (l : Letter) (g : Read text i l) where
      abbrev next : Next text i (length text) v.to.rest
      next = ahead.next v.to h

      is : (l.code ≡ next.c) × (l.width ≡ length (encode1 next.c))
      is = ahead.read_is v.to h l g

      split_next : keys_in s v.to.word ≡ v.so_far ++ pick (is_key s l.code) (deed_by s (row_for s l.code) ∷ keys_in s next.t) (keys_in s next.t)
      unfolding keys_in
      split_next =
          v.split ∙ ap (λ (t : Word). v.so_far ++ keys_in s t) next.is
          ∙ ap (λ (c : ℕ). v.so_far ++ pick (is_key s c) (deed_by s (row_for s c) ∷ keys_in s next.t) (keys_in s next.t)) (sym is.0)

      abbrev to_next : Ahead text text (i + l.width)
      to_next = ahead.past v.to next text (i + l.width) (ap (λ (x : ℕ). i + x) is.1) refl

      -- the letter is no key
      module _ (e : None ≡ puts_for s l.code) where
        no_key : is_key s l.code ≡ false
        unfolding puts_for
        no_key = by (is_key s l.code) (λ t. absurd (some_not_none (sym (e ∙ ap (λ (b : Bool). pick b (Some (length (put (deed_by s (row_for s l.code))))) None) t)))) (λ f. f)

        pub passed : Inv text old s (i + l.width) page
        passed = record {
          to = to_next;
          so_far = v.so_far;
          tells = v.tells;
          split = split_next ∙ ap (λ (b : Bool). v.so_far ++ pick b (deed_by s (row_for s l.code) ∷ keys_in s next.t) (keys_in s next.t)) no_key;
          fits = v.fits;
        }

      -- it is a key, for which n letters are put
      module _ (n : ℕ) (e : Some n ≡ puts_for s l.code) where
        abbrev deed : Deed
        deed = deed_by s (row_for s l.code)

        key : is_key s l.code ≡ true
        unfolding puts_for
        key = by (is_key s l.code) (λ t. t) (λ f. absurd (some_not_none (e ∙ ap (λ (b : Bool). pick b (Some (length (put deed))) None) f)))

        split_key : keys_in s v.to.word ≡ v.so_far ++ (deed ∷ keys_in s next.t)
        split_key = split_next ∙ ap (λ (b : Bool). v.so_far ++ pick b (deed ∷ keys_in s next.t) (keys_in s next.t)) key

        own : take (i + l.width - i) (drop i text) ≡ encode (row_of deed)
        own =
            let z : i + l.width - i ≡ l.width = omega arith in
            (λ j. take (z j) (next.at.1 j)) ∙ ap (λ (x : ℕ). take x (encode1 next.c ++ encode next.t)) is.1 ∙ take-append_seam (encode1 next.c) (encode next.t)
            ∙ sym (encode_one next.c) ∙ ap (λ (c : ℕ). encode (c ∷ [])) (sym is.0) ∙ ap encode (sym (key_row s k.one l.code key))

        pub is_deed : IsDeed deed step_name (take (i + l.width - i) (drop i text)) n
        unfolding puts_for
        is_deed = record {
          named = k.named;
          row = (subst Scalars (ap (λ (c : ℕ). c ∷ []) (sym is.0) ∙ sym (key_row s k.one l.code key)) (next.at.0, tt), own);
          puts = some_same (e ∙ ap (λ (b : Bool). pick b (Some (length (put deed))) None) key);
        }
          where
            some_same : {m k : ℕ} → Some m ≡ Some k → m ≡ k
            some_same q = cc

        fits_split : Fits old (v.so_far ++ (deed ∷ keys_in s next.t))
        fits_split = subst (Fits old) split_key v.fits

        pub fits_deed : Fits page (deed ∷ [])
        fits_deed = fits_first (deed ∷ []) (keys_in s next.t) page (fits_second v.so_far (deed ∷ keys_in s next.t) old fits_split page v.tells)

        pub told : (q : Page) → Tells page (deed ∷ []) q → Inv text old s (i + l.width) q
        told q t = record {
          to = to_next;
          so_far = v.so_far ++ (deed ∷ []);
          tells = tells_both v.so_far (deed ∷ []) v.tells t;
          split = split_key ∙ sym (append_assoc v.so_far (deed ∷ []) (keys_in s next.t));
          fits = v.fits;
        }
