-- The number of endings: each takes a letter, two letters stay, and a defined word has three at most. Assumes nothing.
use mathlib.Core.Path.{◌≡◌, refl, ap, ◌∙◌}
use Prim.Native.Nat.{◌+◌}
use native.Mathlib.Omega.{arith}
use lib.ListN.{length, length-append, length-reverse}
use Rattle.definition.specs.Words.{Word}
use Rattle.definition.specs.Kind.{kind}
use Rattle.definition.specs.Normal.{normalise}
use Rattle.definition.specs.Endings.{joined}
use Rattle.definition.specs.Stem.{cutting, cuts, chain}
use Rattle.definition.specs.Number.{FewEndings}
use Rattle.definition.proofs.Cutting.{endings-kept}
use Rattle.definition.proofs.DefinedWords.{at_most_three}

-- the chain is as long as the list of the cuts
pub chain_length : (w : Word) → length (chain w) ≡ length (cuts w)
unfolding chain
chain_length w = length-reverse (cuts w)

pub few_endings : (w : Word) → FewEndings w (length (chain w))
unfolding cuts cutting
few_endings w =
    let k = endings-kept (normalise w) (kind w) in
    let v = cutting (kind w) (normalise w) in
    let l : length (normalise w) ≡ length v.text + length (joined v.cuts) = ap length k.whole ∙ length-append v.text (joined v.cuts) in
    record {
      below = λ h. omega (arith, chain_length w, k.least, k.fewer);
      most = λ h. omega (arith, chain_length w, k.least, k.fewer);
      defined = λ e. omega (arith, chain_length w, at_most_three w e);
    }

-- no ending is within every bound
pub none_few : (w : Word) → FewEndings w 0
none_few w = record { below = λ h. refl; most = λ h. omega arith; defined = λ e. omega arith }
