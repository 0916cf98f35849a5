-- The lines of items 2 to 5, one item behind the other. Assumes nothing.
use mathlib.Core.Path.{◌≡◌, refl, sym, ap, ◌∙◌, subst}
use mathlib.Core.List.{List, ◌++◌, map, reverse, append_assoc}
use Prim.Native.Nat.{ℕ}
use Rattle.std.specs.Prelude.{Option as Maybe}
use Rattle.definition.specs.Words.{Word}
use Rattle.definition.specs.Tables.{A_0}
use Rattle.definition.specs.Kind.{Kind, OPEN, DEFINED, kind}
use Rattle.definition.specs.Normal.{normalise}
use Rattle.definition.specs.Endings.{endings, endings_leave}
use Rattle.definition.specs.Fronts.{text, fronts}
use Rattle.definition.specs.Stem.{cutting, fronting, cuts, chain, applied}
use Rattle.utf8.specs.Spelt.{Encodes}
use Rattle.arabic.specs.declared.context.Context.{Context}
use Rattle.arabic.specs.Contexts.{started, flagged}
use Rattle.arabic.specs.Kinds.{flags, kind_by_verb, kind_of}
use Rattle.history.specs.Steps.{Deed, normalize_pre, name, table_of}
use Rattle.history.specs.History.{keys_in, cut_deed, maqsura_deeds, post_deeds, stem_deeds}
use Rattle.story.specs.declared.page.Page.{Page}
use Rattle.story.specs.Telling.{Tells, Fits, puts_for, KeysOf, ending_deeds, front_deeds}
use Rattle.story.proofs.Lines.{tells_both, fits_first, fits_second}

-- the kind can be read off both flags
kinds_back : (k : Kind) → (kind_of (flags k).defined ≡ k) × (kind_by_verb (flags k).verb ≡ k)
kinds_back OPEN = (refl, refl)
kinds_back DEFINED = (refl, refl)

pub kinds_are : (c : Context) (k : Kind) → c ≡ flagged started (flags k) → (kind_of c.b_is_defined ≡ k) × (kind_by_verb c.b_is_verb ≡ k)
kinds_are c k e =
    let b = kinds_back k in
    (ap (λ (x : Context). kind_of x.b_is_defined) e ∙ b.0, ap (λ (x : Context). kind_by_verb x.b_is_verb) e ∙ b.1)

-- the deeds of the items, where both j and k are the kind of the word
abbrev later : Word → Kind → Kind → List Deed
later w j k = front_deeds k (endings_leave j (normalise w)) ++ post_deeds (text (fronts k (endings_leave j (normalise w))))

split_by : (w : Word) → stem_deeds w ≡ keys_in normalize_pre w ++ (ending_deeds (kind w) (normalise w) ++ later w (kind w) (kind w))
unfolding stem_deeds ending_deeds front_deeds chain cuts applied fronting
split_by w =
    ap (λ (ds : List Deed). keys_in normalize_pre w ++ ds)
    (sym (append_assoc (map cut_deed (reverse (cutting (kind w) (normalise w)).cuts)) (maqsura_deeds (endings (kind w) (normalise w))) (later w (kind w) (kind w))))

module _ {p : Page} (w : Word) (j k : Kind) (ej : j ≡ kind w) (ek : k ≡ kind w) (f : Fits p (stem_deeds w)) where
  split : stem_deeds w ≡ keys_in normalize_pre w ++ (ending_deeds j (normalise w) ++ later w j k)
  split = split_by w ∙ (λ i. keys_in normalize_pre w ++ (ending_deeds (sym ej i) (normalise w) ++ later w (sym ej i) (sym ek i)))

  parts : Fits p (keys_in normalize_pre w ++ (ending_deeds j (normalise w) ++ later w j k))
  parts = subst (Fits p) split f

  pub pre_keys : {answers : ℕ → Maybe ℕ → Type 0} → (text : List ℕ) → Encodes text w → ((c : ℕ) (r : Maybe ℕ) → answers c r → r ≡ puts_for normalize_pre c) → (step_name : List ℕ) → step_name ≡ name normalize_pre
      → KeysOf answers step_name text p normalize_pre w
  unfolding table_of A_0
  pre_keys text e a n q = record { one = refl; puts = a; named = q; encodes = e; fits = fits_first (keys_in normalize_pre w) (ending_deeds j (normalise w) ++ later w j k) p parts }

  module _ {q : Page} (t : Tells p (keys_in normalize_pre w) q) where
    behind_pre : Fits q (ending_deeds j (normalise w) ++ later w j k)
    behind_pre = fits_second (keys_in normalize_pre w) (ending_deeds j (normalise w) ++ later w j k) p parts q t

    pub fits_endings : Fits q (ending_deeds j (normalise w))
    fits_endings = fits_first (ending_deeds j (normalise w)) (later w j k) q behind_pre

    module _ {r : Page} (u : Tells q (ending_deeds j (normalise w)) r) where
      behind_endings : Fits r (later w j k)
      behind_endings = fits_second (ending_deeds j (normalise w)) (later w j k) q behind_pre r u

      abbrev left : Word
      left = endings_leave j (normalise w)

      pub fits_fronts : Fits r (front_deeds k (endings_leave j (normalise w)))
      fits_fronts = fits_first (front_deeds k left) (post_deeds (text (fronts k left))) r behind_endings

      module _ {s : Page} (v : Tells r (front_deeds k (endings_leave j (normalise w))) s) where
        pub fits_post : Fits s (post_deeds (text (fronts k (endings_leave j (normalise w)))))
        fits_post = fits_second (front_deeds k left) (post_deeds (text (fronts k left))) r behind_endings s v

        pub items_told : (z : Page) → Tells s (post_deeds (text (fronts k (endings_leave j (normalise w))))) z → Tells p (stem_deeds w) z
        items_told z x =
            subst (λ (ds : List Deed). Tells p ds z) (sym split)
            (tells_both (keys_in normalize_pre w) (ending_deeds j (normalise w) ++ later w j k) t
            (tells_both (ending_deeds j (normalise w)) (later w j k) u (tells_both (front_deeds k left) (post_deeds (text (fronts k left))) v x)))
