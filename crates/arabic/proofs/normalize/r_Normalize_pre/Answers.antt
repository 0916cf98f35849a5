-- `normalize::r_Normalize_pre` meets its contract: a word of plain letters stays, and the arrays hold any other normalised. Assumes nothing.
use mathlib.Core.Path.{refl, sym, ◌∙◌}
use Rattle.places.specs.Places.{letters_of}
use Rattle.arabic.proofs.Standing.{encoded, passed, normalised}
use Rattle.arabic.proofs.normalize.r_Normalize_pre.Goals as goal

pub returns-then-not-all_plain : goal.returns-then-not-all_plain
returns-then-not-all_plain c =
    let n = c.normalize_text-end in
    λ ts s. normalised ts s n.new.out n.new.out_places n.result (n.ensures ts (encoded s _ refl) s.placed)

pub returns-else-not-all_plain : goal.returns-else-not-all_plain
returns-else-not-all_plain c = λ ts s. passed ts s (sym (c.all_plain.ensures (letters_of ts) (encoded s c.text.result.now c.text.ensures)) ∙ c.if-not-all_plain.false)
