-- `rows::Word::front_rows` is safe: each step leaves an environment that the next one can take. Assumes nothing.
use Rattle.definition.specs.Fronts.{apply, started, prefix_step1, prefix_step2, prefix_step3a_noun, prefix_step3b_noun, prefix_step3_verb}
use Rattle.arabic.proofs.Items.{at_start}
use Rattle.recorded.proofs.Left.{front_left, behind_front, behind_third}
use Rattle.recorded.proofs.rows.Word.front_rows.Goals as goal

pub r_Prefix_Step1-first-requires : goal.r_Prefix_Step1-first-requires
r_Prefix_Step1-first-requires c =
    let f = c.at_front in
    let w = f.ensures.0 in
    let ps = f.ensures.1.0 in
    (w, (ps, at_start f.result w ps f.ensures.1.1.0 f.ensures.1.1.1))

pub left_for_next-requires : goal.left_for_next-requires
left_for_next-requires c =
    let f = c.at_front in
    let w = f.ensures.0 in
    let ps = f.ensures.1.0 in
    front_left ps c.r_Prefix_Step1-first.result.outcome (apply prefix_step1 (started w)) (c.r_Prefix_Step1-first.ensures ps w (at_start f.result w ps f.ensures.1.1.0 f.ensures.1.1.1)).0

pub left_for_next-requires-2 : goal.left_for_next-requires-2
left_for_next-requires-2 c = behind_front prefix_step2 c.left_for_next.result c.left_for_next.ensures c.r_Prefix_Step2-second.result.outcome _ c.r_Prefix_Step2-second.ensures

pub left_for_next-requires-3 : goal.left_for_next-requires-3
left_for_next-requires-3 c = behind_third prefix_step3a_noun c.left_for_next-2.result c.left_for_next-2.ensures c.r_Prefix_Step3a_Noun-noun_a.result.outcome _ c.r_Prefix_Step3a_Noun-noun_a.ensures

pub left_for_next-requires-4 : goal.left_for_next-requires-4
left_for_next-requires-4 c = behind_third prefix_step3b_noun c.left_for_next-3.result c.left_for_next-3.ensures c.r_Prefix_Step3b_Noun-noun_b.result.outcome _ c.r_Prefix_Step3b_Noun-noun_b.ensures

pub left_for_next-requires-5 : goal.left_for_next-requires-5
left_for_next-requires-5 c = behind_third prefix_step3_verb c.left_for_next-4.result c.left_for_next-4.ensures c.r_Prefix_Step3_Verb-verb.result.outcome _ c.r_Prefix_Step3_Verb-verb.ensures
