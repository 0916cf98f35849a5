-- `suffix_steps::r_Suffix_All_alef_maqsura` meets its contract: its table is A_21. Assumes nothing.
use mathlib.Core.Path.{refl, ◌∙◌}
use mathlib.Core.List.{[], ◌∷◌}
use Rattle.definition.specs.Letters.{yeh}
use Rattle.definition.specs.Tables.{A_21}
use Rattle.utf8.specs.Utf8.{encode1, encode}
use Rattle.snowball.proofs.Answers.{low-scalars}
use Rattle.arabic.specs.Endings.{at_end}
use Rattle.arabic.proofs.Guarded.{front}
use Rattle.arabic.proofs.LastLetter.{not_last, room, is_last}
use Rattle.arabic.proofs.suffix_steps.r_Suffix_All_alef_maqsura.Goals as goal

pub returns-then-found-eq0-clause-text : goal.returns-then-found-eq0-clause-text
unfolding A_21 encode encode1
returns-then-found-eq0-clause-text c =
    let x = c.args.env in
    let f = c.find_among_b-found in
    λ ps w st.
    let b = f.ensures.behind A_21 refl refl w st.scalars (front x.current x.limit c.text.result.now c.text.ensures ∙ st.bytes) in
    (not_last x ps w st f.result b c.if-found-eq0.true, b.finds.row)

pub slice_from-requires : goal.slice_from-requires
unfolding A_21 encode encode1
slice_from-requires c =
    let x = c.args.env in
    let f = c.find_among_b-found in
    let w = c.requires.0.text in
    let ps = c.requires.1.0 in
    let st = c.requires.1.1.stands in
    let r = room x ps w st f.result (f.ensures.behind A_21 refl refl w st.scalars (front x.current x.limit c.text.result.now c.text.ensures ∙ st.bytes)) c.if-found-eq0.false in
    ((at_end ps w, st), r.0, r.1)

pub returns-clause-text : goal.returns-clause-text
unfolding A_21 encode encode1
returns-clause-text c =
    let x = c.args.env in
    let f = c.find_among_b-found in
    λ ps w st.
    let b = f.ensures.behind A_21 refl refl w st.scalars (front x.current x.limit c.text.result.now c.text.ensures ∙ st.bytes) in
    (is_last x ps w st f.result b c.if-found-eq0.false c.slice_from.result (c.slice_from.ensures.1 (yeh ∷ []) (low-scalars (yeh ∷ []) refl) refl), b.finds.row)
