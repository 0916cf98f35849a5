-- `tell_endings` meets its contract: the changes that are noted are the endings, and the row of the last search tells of a last 0649. Assumes nothing.
use mathlib.Core.Path.{sym, subst}
use native.Mathlib.Omega.{arith}
use lib.ListN.{length, take}
use Rattle.definition.specs.Words.{Word}
use Rattle.definition.specs.Tries.{after}
use Rattle.definition.specs.Endings.{endings}
use Rattle.definition.specs.Stem.{cutting}
use Rattle.definition.proofs.Leave.{endings_leave_lem}
use Rattle.history.specs.Steps.{name}
use Rattle.snowball.specs.Chars.{started}
use Rattle.snowball.specs.Stands.{Stands}
use Rattle.arabic.specs.Kinds.{kind_of}
use Rattle.arabic.specs.Changes.{cut_numbers}
use Rattle.story.specs.Telling.{AllNoted}
use Rattle.story.proofs.NotedLines.{few_made, noted_are, cuts_noted, maqsura_deed, fits_cuts, fits_maqsura, endings_told, cuts_told}
use Rattle.story.proofs.steps.tell_endings.Goals as goal

pub shared_ref_as_front-tell_changes : goal.shared_ref_as_front-tell_changes
shared_ref_as_front-tell_changes c =
    let r = c.requires.1 in omega (arith, few_made c.cut_endings-cut.result.outcome.env _ (c.cut_endings-cut.ensures.cut r.0 r.1.0 r.1.1.0).noted)

pub tell_changes-requires : goal.tell_changes-requires
unfolding cutting
tell_changes-requires c =
    let r = c.requires.1 in
    let k = kind_of c.args.context.b_is_defined in
    let x = c.cut_endings-cut.result.outcome.env in
    let cs = (after (endings k r.0)).cuts in
    (_, (subst (AllNoted _) (sym (noted_are x (cut_numbers cs) (c.cut_endings-cut.ensures.cut r.0 r.1.0 r.1.1.0).noted)) (cuts_noted cs), fits_cuts k r.0 r.1.1.1))

pub tell-requires : goal.tell-requires
unfolding cutting name
tell-requires c =
    let r = c.requires.1 in
    let k = kind_of c.args.context.b_is_defined in
    let x = c.cut_endings-cut.result.outcome.env in
    let e = c.cut_endings-cut.ensures.cut r.0 r.1.0 r.1.1.0 in
    let cs = (after (endings k r.0)).cuts in
    let t = c.tell_changes.ensures _ (subst (AllNoted _) (sym (noted_are x (cut_numbers cs) e.noted)) (cuts_noted cs)) (fits_cuts k r.0 r.1.1.1) in
    (_, (maqsura_deed, fits_maqsura k r.0 r.1.1.1 t _ e.row c.if-cut-eq0.true))

pub returns-then-cut-eq0-clause-left : goal.returns-then-cut-eq0-clause-left
unfolding cutting
returns-then-cut-eq0-clause-left c = λ w ps st.
    let k = kind_of c.args.context.b_is_defined in
    (_, subst (λ (x : Word). Stands c.cut_endings-cut.result.outcome.env (started x (take (length x) ps))) (sym (endings_leave_lem k w)) (c.cut_endings-cut.ensures.stands w ps st))

pub returns-then-cut-eq0-clause-tells : goal.returns-then-cut-eq0-clause-tells
unfolding cutting name
returns-then-cut-eq0-clause-tells c = λ w ps st f.
    let k = kind_of c.args.context.b_is_defined in
    let x = c.cut_endings-cut.result.outcome.env in
    let e = c.cut_endings-cut.ensures.cut w ps st in
    let cs = (after (endings k w)).cuts in
    let t = c.tell_changes.ensures _ (subst (AllNoted _) (sym (noted_are x (cut_numbers cs) e.noted)) (cuts_noted cs)) (fits_cuts k w f) in
    endings_told k w f t _ e.row c.if-cut-eq0.true c.tell.new.page (c.tell.ensures _ maqsura_deed)

pub returns-else-cut-eq0-clause-left : goal.returns-else-cut-eq0-clause-left
unfolding cutting
returns-else-cut-eq0-clause-left c = λ w ps st.
    let k = kind_of c.args.context.b_is_defined in
    (_, subst (λ (x : Word). Stands c.cut_endings-cut.result.outcome.env (started x (take (length x) ps))) (sym (endings_leave_lem k w)) (c.cut_endings-cut.ensures.stands w ps st))

pub returns-else-cut-eq0-clause-tells : goal.returns-else-cut-eq0-clause-tells
unfolding cutting
returns-else-cut-eq0-clause-tells c = λ w ps st f.
    let k = kind_of c.args.context.b_is_defined in
    let x = c.cut_endings-cut.result.outcome.env in
    let e = c.cut_endings-cut.ensures.cut w ps st in
    let cs = (after (endings k w)).cuts in
    let t = c.tell_changes.ensures _ (subst (AllNoted _) (sym (noted_are x (cut_numbers cs) e.noted)) (cuts_noted cs)) (fits_cuts k w f) in
    cuts_told k w f t _ e.row c.if-cut-eq0.false
