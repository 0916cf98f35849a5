-- `stem::stem_of` meets its contract. Assumes nothing.
use mathlib.Core.Path.{sym, subst}
use lib.ListN.{length, take}
use Rattle.definition.specs.Words.{Word}
use Rattle.definition.specs.Tries.{after}
use Rattle.definition.specs.Kind.{Kind}
use Rattle.definition.specs.Normal.{normalise}
use Rattle.definition.specs.Endings.{endings, maqsura_if_failed}
use Rattle.definition.specs.Fronts.{text, fronts}
use Rattle.definition.specs.Finish.{finish}
use Rattle.definition.specs.Stem.{cutting, fronting, stem_of}
use Rattle.definition.proofs.Leave.{endings_leave_lem}
use Rattle.places.specs.Places.{letters_of, normal_places}
use Rattle.snowball.specs.Chars.{started}
use Rattle.snowball.specs.Stands.{Stands}
use Rattle.arabic.specs.Fronts.{front_places}
use Rattle.arabic.specs.Kinds.{kind_of}
use Rattle.arabic.proofs.stem.stem_of.Goals as goal

pub change_front-changed-requires : goal.change_front-changed-requires
change_front-changed-requires c =
    let p = c.requires.0 in
    (_, (_, c.cut_endings.ensures.stands (normalise (letters_of p.0)) (normal_places p.0) (c.r_Normalize_pre-normalised.ensures p.0 p.1)))

pub finish_letters-requires : goal.finish_letters-requires
finish_letters-requires c =
    let p = c.requires.0 in
    (_, (_, c.change_front-changed.ensures.stands _ _ (c.cut_endings.ensures.stands (normalise (letters_of p.0)) (normal_places p.0) (c.r_Normalize_pre-normalised.ensures p.0 p.1))))

pub returns : goal.returns
unfolding stem_of fronting cutting
returns c =
    let e = c.requires.2 in
    let d = kind_of c.args.context.b_is_defined in
    λ ts st.
    let n = normalise (letters_of ts) in
    let ps = normal_places ts in
    let s = c.r_Normalize_pre-normalised.ensures ts st in (
      subst (λ (x : Word). Stands c.finish_letters.result (started (finish (text (fronts d x))) (front_places (take (length x) ps) (fronts d x)))) (sym (endings_leave_lem d n))
          (subst (λ (k : Kind). let x : Word = maqsura_if_failed (endings d n) (after (endings d n)).text in Stands c.finish_letters.result (started (finish (text (fronts k x))) (front_places (take (length x) ps) (fronts k x))))
          e (c.finish_letters.ensures _ _ (c.change_front-changed.ensures.stands _ _ (c.cut_endings.ensures.stands n ps s)))),
      (c.cut_endings.ensures.cut n ps s).number,
    )
