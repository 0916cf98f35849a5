-- Deeds played one after the other, each in its place; and the same numbers by counting. Assumes nothing.
use mathlib.Core.Path.{◌≡◌, refl, sym, ap, ◌∙◌, subst}
use mathlib.Core.List.{List, [], ◌∷◌, ◌++◌, map, map-append, reverse, reverse-cons}
use Prim.Native.Nat.{ℕ, ◌+◌}
use native.Mathlib.Omega.{arith}
use lib.ListN.{length, length-append}
use Rattle.std.specs.List.{All, sum_by}
use Rattle.std.proofs.lemmas.List.Elements.{All-nil, All-cons}
use Rattle.std.proofs.lemmas.List.Sums.{sum_by-append}
use Rattle.definition.specs.Words.{Word}
use Rattle.history.specs.Steps.{Deed, row_of, put}
use Rattle.history.specs.History.{Letters, whole, play, play_all, Change, told, counted, numbered}
use Rattle.history.specs.Laws.{Listed, Replaces, InPlace}

-- playing ds makes q of p, and each deed finds its row in its place
pub record Plays (p : Letters) (ds : List Deed) (q : Letters) : Type 0 where
  pub makes : play_all ds p ≡ q
  pub places : InPlace p ds

pub plays_none : (p : Letters) → Plays p [] p
unfolding play_all InPlace
plays_none p = record { makes = refl; places = tt }

pub plays_one : (p q : Letters) (d : Deed) → play d p ≡ q → Replaces d (whole p) (whole q) → Plays p (d ∷ []) q
unfolding play_all InPlace
plays_one p q d e r = record { makes = e; places = (subst (λ (x : Letters). Replaces d (whole p) (whole x)) (sym e) r, tt) }

play_append : (xs ys : List Deed) (p : Letters) → play_all (xs ++ ys) p ≡ play_all ys (play_all xs p)
unfolding play_all
play_append [] ys p = refl
play_append (x ∷ xs) ys p = play_append xs ys (play x p)

in_place_append : (xs ys : List Deed) (p : Letters) → InPlace p xs → InPlace (play_all xs p) ys → InPlace p (xs ++ ys)
unfolding play_all InPlace
in_place_append [] ys p h g = g
in_place_append (x ∷ xs) ys p h g = (h.0, in_place_append xs ys (play x p) h.1 g)

pub plays_both : (xs ys : List Deed) (p q r : Letters) → Plays p xs q → Plays q ys r → Plays p (xs ++ ys) r
plays_both xs ys p q r f g = record {
  makes = play_append xs ys p ∙ ap (play_all ys) f.makes ∙ g.makes;
  places = in_place_append xs ys p f.places (subst (λ (x : Letters). InPlace x ys) (sym f.makes) g.places);
}

-- deeds that are kept with the last one foremost: one more
pub plays_more : {A : Type 0} (f : A → Deed) (x : A) (xs : List A) (p q r : Letters) → Plays p (map f (reverse xs)) q → Plays q (f x ∷ []) r → Plays p (map f (reverse (x ∷ xs))) r
plays_more f x xs p q r h g =
    subst (λ (ys : List Deed). Plays p ys r) (sym (ap (map f) (reverse-cons x xs) ∙ map-append f (reverse xs) (x ∷ [])))
    (plays_both (map f (reverse xs)) (f x ∷ []) p q r h g)

-- ---- what is told of deeds

-- the changes of a history are the deeds told
pub told_deeds : (p : Letters) (ds : List Deed) → map (λ (c : Change). c.deed) (told p ds) ≡ ds
unfolding told
told_deeds p [] = refl
told_deeds p (d ∷ ds) = ap (λ (xs : List Deed). d ∷ xs) (told_deeds (play d p) ds)

pub told_append : (xs ys : List Deed) (p : Letters) → told p (xs ++ ys) ≡ told p xs ++ told (play_all xs p) ys
unfolding told play_all
told_append [] ys p = refl
told_append (x ∷ xs) ys p = ap (λ (cs : List Change). record { deed = x; left = length (whole (play x p)) } ∷ cs) (told_append xs ys (play x p))

-- ---- what follows from the places

pub in_place_listed : (p : Letters) (ds : List Deed) → InPlace p ds → All Listed ds
unfolding InPlace
in_place_listed p [] h = All-nil Listed
in_place_listed p (d ∷ ds) h = All-cons Listed d ds h.0.listed (in_place_listed (play d p) ds h.1)

replaces_counted : (d : Deed) (w x : Word) → Replaces d w x → length x ≡ counted (length w) d
unfolding counted
replaces_counted d w x r =
    let l : length w ≡ length r.before + (length (row_of d) + length r.behind) = ap length r.had ∙ length-append r.before _ ∙ ap (λ n. length r.before + n) (length-append (row_of d) r.behind) in
    let m : length x ≡ length r.before + (length (put d) + length r.behind) = ap length r.has ∙ length-append r.before _ ∙ ap (λ n. length r.before + n) (length-append (put d) r.behind) in
    omega arith

-- the numbers follow by counting
pub told_counted : (p : Letters) (ds : List Deed) → InPlace p ds → told p ds ≡ numbered (length (whole p)) ds
unfolding InPlace told numbered
told_counted p [] h = refl
told_counted p (d ∷ ds) h =
    let e = replaces_counted d (whole p) (whole (play d p)) h.0 in
    λ i. record { deed = d; left = e i } ∷ (told_counted (play d p) ds h.1 ∙ ap (λ (n : ℕ). numbered n ds) e) i

-- letters that are weighed: a deed takes its row's weight off, and adds that of what it puts
pub replaces_weight : (f : ℕ → ℕ) (d : Deed) (w x : Word) → Replaces d w x → sum_by f x + sum_by f (row_of d) ≡ sum_by f w + sum_by f (put d)
replaces_weight f d w x r =
    let a : sum_by f w ≡ sum_by f r.before + (sum_by f (row_of d) + sum_by f r.behind) = ap (sum_by f) r.had ∙ sum_by-append f r.before _ ∙ ap (λ n. sum_by f r.before + n) (sum_by-append f (row_of d) r.behind) in
    let b : sum_by f x ≡ sum_by f r.before + (sum_by f (put d) + sum_by f r.behind) = ap (sum_by f) r.has ∙ sum_by-append f r.before _ ∙ ap (λ n. sum_by f r.before + n) (sum_by-append f (put d) r.behind) in
    omega arith
