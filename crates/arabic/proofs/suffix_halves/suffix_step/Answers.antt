-- `suffix_halves::suffix_step` meets its contract. Assumes nothing.
use mathlib.Core.Path.{◌≡◌, sym, ◌∙◌}
use borrow.Author.Rules.{rules}
use lib.ListN.{length}
use Rattle.snowball.specs.Stands.{most_changes}
use Rattle.arabic.proofs.Ending.{found_in, can_note, cuts, keeps}
use Rattle.arabic.proofs.suffix_halves.suffix_step.Goals as goal

-- there is no ending
pub returns-in_default : goal.returns-in_default
returns-in_default c =
    let x = c.args.env in
    let t = c.text in
    let f = c.ending-found in
    λ s q first ps v st.
    let tk = found_in s ps v x st t.result.now t.ensures f.result (f.ensures.takes_ending s q) in
    (keeps s ps v x st (sym c.in_default.is ∙ tk.place), tk.row)

-- there is one
pub note-requires : goal.note-requires
note-requires c =
    let x = c.args.env in
    let t = c.text in
    let f = c.ending-found in
    let p = c.requires.0 in
    let k = c.requires.1 in
    can_note k.0 p.1.0 p.0 x p.1.1 f.result (found_in k.0 p.1.0 p.0 x p.1.1 t.result.now t.ensures f.result (f.ensures.takes_ending k.0 k.1.0)) c.in-Some.place c.args.step c.in-Some.is k.1.1

pub returns : goal.returns
returns c =
    let x = c.args.env in
    let t = c.text in
    let f = c.ending-found in
    let n : length x.changes ≡ most_changes = search rules in
    λ s q first ps v st.
    let tk = found_in s ps v x st t.result.now t.ensures f.result (f.ensures.takes_ending s q) in
    (cuts s ps v x st f.result tk c.in-Some.place c.args.step c.in-Some.is first n c.note.new.env c.note.ensures, tk.row)
