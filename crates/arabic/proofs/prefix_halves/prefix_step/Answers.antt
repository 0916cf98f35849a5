-- `prefix_halves::prefix_step` meets its contract. Assumes nothing.
use Rattle.definition.specs.Fronts.{text}
use Rattle.arabic.proofs.Fronted.{whole_text, rest_text, text_fits}
use Rattle.arabic.proofs.prefix_halves.prefix_step.Goals as goal

pub front_row-found-requires : goal.front_row-found-requires
front_row-found-requires c = let p = c.requires in text_fits c.args.env p.1.1.0.0 p.1.0 p.1.1.0.1.stands c.text.result.now c.text.ensures

pub replace_front-requires : goal.replace_front-requires
replace_front-requires c =
    let x = c.args.env in
    let t = c.text in
    let s = c.requires.0 in
    let w = c.requires.1.0 in
    let p = c.requires.1.1 in
    (s, (w, (p.0, (c.front_row-found.ensures s p.1.0 (text w) w.rest (whole_text x p.0.0 w p.0.1.stands t.result.now t.ensures).1 (rest_text x p.0.0 w p.0.1.stands t.result.now t.ensures), p.1.1, p.1.2))))

pub returns : goal.returns
returns c =
    let x = c.args.env in
    let t = c.text in
    λ s ps w st r pe first nb ch.
    c.replace_front.ensures s ps w st (c.front_row-found.ensures s r (text w) w.rest (whole_text x ps w st.stands t.result.now t.ensures).1 (rest_text x ps w st.stands t.result.now t.ensures)) pe first nb ch
