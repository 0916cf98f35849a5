-- `verb_nest::verb` meets its contract. Assumes nothing.
use mathlib.Core.Path.{subst}
use Rattle.std.proofs.Common.{rules}
use Rattle.definition.specs.Endings.{cut, verb_step2a, verb_step2b}
use Rattle.arabic.specs.Endings.{Ends, Gives}
use Rattle.arabic.proofs.Nest.{by_step1, or_else, verb_is}
use Rattle.arabic.proofs.verb_nest.verb.Goals as goal

pub returns : goal.returns
returns c = λ ps v st.
    let a = c.r_Suffix_Verb_Step1 in
    let s = c.map in
    let t = c.or_else in
    let r = c.or_else-2 in
    subst (Gives ps r.result) (verb_is v)
    (or_else (Ends ps) (Ends ps) (Ends ps) t.result r.result (cut verb_step2a) (search rules) _
    (or_else (Ends ps) (Ends ps) (Ends ps) s.result t.result (cut verb_step2b) (search rules) _
    (by_step1 ps a.result.outcome s.result v (search rules) (a.ensures ps v st).0)))
