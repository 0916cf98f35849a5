-- `verb_nest::behind_Step1` meets its contract. Assumes nothing.
use Rattle.arabic.proofs.Nest.{repeated_ready, behind_step1}
use Rattle.arabic.proofs.verb_nest.behind_Step1.Goals as goal

pub after_Step1-requires : goal.after_Step1-requires
after_Step1-requires c = repeated_ready c.args.env c.repeat_Step1-repeated.result c.requires c.repeat_Step1-repeated.ensures

pub returns : goal.returns
returns c = behind_step1 c.args.env c.repeat_Step1-repeated.result c.after_Step1.result c.repeat_Step1-repeated.ensures c.after_Step1.ensures
