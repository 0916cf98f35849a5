-- A match of whole letters at a letter boundary is a match of their bytes, in front and at the end. Assumes nothing.
use mathlib.Core.Path.{◌≡◌, refl, sym, ap, ◌∙◌}
use mathlib.Core.Bool.{Bool, true, false}
use mathlib.Core.List.{[], ◌∷◌, append-nil}
use Prim.Native.Nat.{◌-◌}
use lib.ListN.{length, take, drop}
use Rattle.definition.specs.Words.{Word, begins_with, ends_with}
use Rattle.definition.proofs.Match.{begins_split, begins_of, ends_split, ends_of}
use Rattle.utf8.specs.Utf8.{Scalars, encode}
use Rattle.utf8.proofs.Text.{encode-append, match_front, match_back}

-- two tests that imply one another are equal
pub iff : (a b : Bool) → (a ≡ true → b ≡ true) → (b ≡ true → a ≡ true) → a ≡ b
iff true b f g = sym (f refl)
iff false true f g = g refl
iff false false f g = refl

pub front_bytes : (w key : Word) → Scalars w → Scalars key → begins_with (encode w) (encode key) ≡ begins_with w key
front_bytes w key s t = iff (begins_with (encode w) (encode key)) (begins_with w key)
    (λ e. let m = match_front w key (drop (length (encode key)) (encode w)) s t (begins_split (encode w) (encode key) e) in begins_of w key m.0 m.1)
    (λ e. begins_of (encode w) (encode key) (encode (drop (length key) w)) (ap encode (begins_split w key e) ∙ encode-append key (drop (length key) w)))

pub end-bytes : (w key : Word) → Scalars w → Scalars key → ends_with (encode w) (encode key) ≡ ends_with w key
unfolding encode
end-bytes w [] s t = ends_of (encode w) (encode w) [] (sym (append-nil (encode w))) ∙ sym (ends_of w w [] (sym (append-nil w)))
end-bytes w (c ∷ key) s t = iff (ends_with (encode w) (encode (c ∷ key))) (ends_with w (c ∷ key))
    (λ e. let m = match_back w (take (length (encode w) - length (encode (c ∷ key))) (encode w)) c key s t (ends_split (encode w) (encode (c ∷ key)) e) in
    ends_of w m.0 (c ∷ key) m.1)
    (λ e. let u : Word = take (length w - length (c ∷ key)) w in
    ends_of (encode w) (encode u) (encode (c ∷ key)) (ap encode (ends_split w (c ∷ key) e) ∙ encode-append u (c ∷ key)))
