-- `noun_nest::first_cut` meets its contract. Assumes nothing.
use Rattle.std.proofs.Common.{rules}
use Rattle.definition.specs.Kind.{if_open}
use Rattle.definition.specs.Endings.{cut, noun_step2a, noun_step2b, noun_step2c2}
use Rattle.arabic.specs.Endings.{Ends}
use Rattle.arabic.specs.Kinds.{kind_of}
use Rattle.arabic.specs.Nests.{by_step1b}
use Rattle.arabic.proofs.Nest.{left_is, ready_err, or_else, noun_first_is}
use Rattle.arabic.proofs.noun_nest.first_cut.Goals as goal

pub or_else-tried-requires : goal.or_else-tried-requires
or_else-tried-requires c =
    let k = kind_of c.args.b_is_defined in
    let p = c.requires in
    let ps = p.1.0 in
    let a = c.r_Suffix_Noun_Step2c2 in
    let s = c.or_else in
    let t = c.or_else-2 in
    let r = ready_err ps t.result _
    (or_else (Ends ps) (Ends ps) (Ends ps) s.result t.result (if_open k (cut noun_step2a)) (search rules) _
    (or_else (Ends ps) (Ends ps) (Ends ps) a.result.outcome s.result by_step1b (search rules) (cut noun_step2c2 p.0) (a.ensures ps p.0 p.1.1).0)) in
    search rules

pub returns : goal.returns
returns c = λ ps v st.
    let k = kind_of c.args.b_is_defined in
    let a = c.r_Suffix_Noun_Step2c2 in
    let s = c.or_else in
    let t = c.or_else-2 in
    let r = c.or_else-tried in
    left_is (Ends ps) r.result _ _ _ (noun_first_is k v) c.left_by.ensures
    (or_else (Ends ps) (Ends ps) (Ends ps) t.result r.result (cut noun_step2b) (search rules) _
    (or_else (Ends ps) (Ends ps) (Ends ps) s.result t.result (if_open k (cut noun_step2a)) (search rules) _
    (or_else (Ends ps) (Ends ps) (Ends ps) a.result.outcome s.result by_step1b (search rules) (cut noun_step2c2 v) (a.ensures ps v st).0)))
