-- `prefix_steps::r_Prefix_Step1` meets its contract: its table is A_4, with its guards, what stands for its rows, and its number, and with class 3 the
-- first letter lends its place to the second. Assumes nothing.
use mathlib.Core.Path.{◌≡◌, refl, sym, subst}
use Prim.Native.Nat.{◌<◌}
use native.Mathlib.Omega.{arith}
use borrow.Author.Rules.{rules}
use lib.ListN.{length}
use Rattle.definition.specs.Tables.{A_4}
use Rattle.definition.specs.Fronts.{prefix_step1, prefix, replacements, not_at, change, started}
use Rattle.utf8.specs.Utf8.{encode1, encode}
use Rattle.snowball.specs.declared.env.Env.{Env}
use Rattle.snowball.specs.Stands.{work_size}
use Rattle.arabic.specs.Fronts.{AtFront, Takes}
use Rattle.arabic.proofs.Fronted.{whole_text, rest_text, text_fits}
use Rattle.arabic.proofs.FrontSteps.{at_front_zero, unlent_changes, unlent, lent, lent_state, lent_changes, lent_gives}
use Rattle.arabic.proofs.prefix_steps.r_Prefix_Step1.Goals as goal
use Rattle.arabic.proofs.prefix_steps.r_Prefix_Step1.Goals.{then-first_kept, else-first_kept}

pub front_row-found-requires : goal.front_row-found-requires
front_row-found-requires c = let p = c.requires in text_fits c.args.env p.1.0 (started p.0) p.1.1.stands c.text.result.now c.text.ensures

pub bounds-env-env : goal.bounds-env-env
bounds-env-env c = let p = c.requires in omega (arith, at_front_zero p.0 p.1.0 c.args.env p.1.1)

pub overflow_add-env : goal.overflow_add-env
overflow_add-env c = let p = c.requires in omega (arith, at_front_zero p.0 p.1.0 c.args.env p.1.1)

pub bounds-env-env-then-first_kept : goal.bounds-env-env-then-first_kept
bounds-env-env-then-first_kept c = let p = c.requires in omega (arith, at_front_zero p.0 p.1.0 c.args.env p.1.1)

pub replace_front-requires : goal.replace_front-requires
unfolding started prefix replacements A_4 encode encode1
replace_front-requires c =
    let x = c.args.env in
    let w = c.requires.0 in
    let ps = c.requires.1.0 in
    let st = c.requires.1.1 in
    let f = c.front_row-found.result in
    let t = c.text in
    let tk : Takes prefix_step1 w w x.cursor f =
    c.front_row-found.ensures prefix_step1 (record { table = refl; letters = refl; guards = refl }) w w
    (whole_text x ps (started w) st.stands t.result.now t.ensures).1 (rest_text x ps (started w) st.stands t.result.now t.ensures) in
    let n : length x.places ≡ work_size = search rules in
    let wide : 2 < length x.places = omega arith in
    elim c.if-first_kept.branch [
      | then-first_kept k ↦ (
        prefix_step1,
        (
          started w,
          (
            (
              lent ps,
              subst (λ (y : Env). AtFront (lent ps) y (started w)) (sym k.env-is)
                  (lent_state w ps x st f tk c.first_kept.result c.first_kept.ensures k.if-first_kept.true wide),
            ),
            (subst (λ (y : Env). Takes prefix_step1 w w y.cursor f) (sym k.env-is) tk, refl, refl),
          ),
        ),
      )
      | else-first_kept k ↦ (
        prefix_step1,
        (
          started w,
          (
            (ps, subst (λ (y : Env). AtFront ps y (started w)) (sym k.env-is) st),
            (subst (λ (y : Env). Takes prefix_step1 w w y.cursor f) (sym k.env-is) tk, refl, refl),
          ),
        ),
      )
    ]

pub returns : goal.returns
unfolding started prefix replacements not_at change A_4 encode encode1
returns c =
    let x = c.args.env in
    let f = c.front_row-found.result in
    let b = c.first_kept.result in
    let m = c.first_kept.ensures in
    let r = c.replace_front in
    let n : length x.places ≡ work_size = search rules in
    let wide : 2 < length x.places = omega arith in
    λ ps w st.
    let t = c.text in
    let tk : Takes prefix_step1 w w x.cursor f =
    c.front_row-found.ensures prefix_step1 (record { table = refl; letters = refl; guards = refl }) w w
    (whole_text x ps (started w) st.stands t.result.now t.ensures).1 (rest_text x ps (started w) st.stands t.result.now t.ensures) in
    elim c.if-first_kept.branch [
      | then-first_kept k ↦
          let e = k.if-first_kept.true in
          let g = r.ensures prefix_step1 (lent ps) (started w) (subst (λ (y : Env). AtFront (lent ps) y (started w)) (sym k.env-is) (lent_state w ps x st f tk b m e wide))
          (subst (λ (y : Env). Takes prefix_step1 w w y.cursor f) (sym k.env-is) tk) refl refl refl (lent_changes w ps x st f tk b m e) in
          (lent_gives w ps x st f tk b m e r.result.outcome g.0, g.1)
      | else-first_kept k ↦
          let e = k.if-first_kept.false in
          let g = r.ensures prefix_step1 ps (started w) (subst (λ (y : Env). AtFront ps y (started w)) (sym k.env-is) st)
          (subst (λ (y : Env). Takes prefix_step1 w w y.cursor f) (sym k.env-is) tk) refl refl refl (unlent_changes w ps x st f tk b m e) in
          (unlent w ps x st f tk b m r.result.outcome g.0, g.1)
    ]
