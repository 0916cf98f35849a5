-- `stem::stem` meets its contract: items 1 to 5 of the word. Assumes nothing.
use mathlib.Core.Path.{◌≡◌, refl, sym, ap, ◌∙◌, subst}
use mathlib.Core.List.{List}
use Prim.Native.Nat.{ℕ}
use lib.ListN.{length}
use Rattle.definition.specs.Kind.{Kind, OPEN, DEFINED, kind}
use Rattle.definition.specs.Normal.{normalise}
use Rattle.definition.specs.Stem.{cutting, fronting, stem_of, stem, cuts}
use Rattle.definition.proofs.Number.{chain_length}
use Rattle.places.specs.Places.{letters_of, normal_places, stem_places}
use Rattle.snowball.specs.Chars.{started}
use Rattle.arabic.specs.Texts.{places_by}
use Rattle.arabic.proofs.KeptPlaces.{kept_is}
use Rattle.snowball.specs.Stands.{Stands}
use Rattle.arabic.specs.declared.context.Context.{Context}
use Rattle.arabic.specs.Kinds.{flags, kind_by_verb, kind_of}
use Rattle.arabic.proofs.Standing.{encoded}
use Rattle.arabic.proofs.Checking.{kind-back}
use Rattle.arabic.proofs.stem.stem.Goals as goal

one-kind : (k : Kind) → kind_by_verb (flags k).verb ≡ kind_of (flags k).defined
one-kind OPEN = refl
one-kind DEFINED = refl

pub returns : goal.returns
unfolding stem stem_of fronting cuts stem_places
returns c =
    let k = c.checked in
    λ ts st.
    let w = letters_of ts in
    let e : kind_of k.result.outcome.b_is_defined ≡ kind w = ap (λ (x : Context). kind_of x.b_is_defined) (k.ensures w (encoded st c.text.result.now c.text.ensures)).0 ∙ kind-back (kind w) in
    let s = c.stem_of.ensures ts st in (
      subst (λ (ps : List ℕ). Stands c.stem_of.result.env (started (stem w) ps)) (kept_is w (normal_places ts))
          (subst (λ (x : Kind). Stands c.stem_of.result.env (started (stem_of x (normalise w)) (places_by x (normalise w) (normal_places ts)))) e s.0),
      s.1 ∙ ap (λ (x : Kind). length (cutting x (normalise w)).cuts) e ∙ sym (chain_length w),
    )
