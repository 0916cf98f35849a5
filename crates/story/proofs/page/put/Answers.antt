-- `put` meets its contract: each turn writes one byte. Assumes nothing.
use mathlib.Core.Path.{◌≡◌, sym, ap, ◌∙◌, subst}
use mathlib.Core.List.{List, [], ◌∷◌, ◌++◌, append_assoc}
use Prim.Native.Nat.{ℕ, suc, ◌+◌, ◌<◌}
use native.Mathlib.Omega.{arith}
use borrow.Author.Rules.{rules}
use lib.ListN.{length, take, set, get_or, length-append}
use Rattle.std.proofs.lemmas.List.{take_more_set, length-take-le, take_all}
use Rattle.std.proofs.Math.Seq.{take-suc}
use Rattle.story.specs.declared.page.Page.{Page}
use Rattle.story.specs.Telling.{written, Adds}
use Rattle.story.proofs.Spelling.{adds_none}
use Rattle.story.proofs.page.put.Goals as goal

-- one byte more is written behind
one_more : (p q : Page) (bs : List ℕ) (i : ℕ) → Adds p (take i bs) q → i < length bs → q.len < length q.text
    → Adds p (take (i + 1) bs) (record { letters = q.letters; len = q.len + 1; text = set q.text q.len (get_or bs i 0) })
one_more p q bs i h l r = record {
  text = take_more_set q.text q.len (get_or bs i 0) r ∙ ap (λ (t : List ℕ). t ++ (get_or bs i 0 ∷ [])) h.text ∙ append_assoc (written p) (take i bs) (get_or bs i 0 ∷ [])
      ∙ ap (λ (t : List ℕ). written p ++ t) (sym more);
  len = omega (arith, h.len, ap length more, length-take-le i bs (omega arith), length-append (take i bs) (get_or bs i 0 ∷ []));
  letters = h.letters;
}
  where
    more : take (i + 1) bs ≡ take i bs ++ (get_or bs i 0 ∷ [])
    more = let e : i + 1 ≡ suc i = omega arith in ap (λ (n : ℕ). take n bs) e ∙ take-suc bs i 0 l

pub loop-byte-init : goal.loop-byte-init
loop-byte-init c = adds_none c.args.page.now

pub bounds-page-page : goal.bounds-page-page
bounds-page-page c = omega (arith, c.requires, c.loop-byte.invariant.len, length-take-le c.loop-byte.byte-index c.args.bytes.now (omega (arith, c.loop-byte-test.true)), c.loop-byte-test.true)

pub overflow_add-page : goal.overflow_add-page
overflow_add-page c = omega (arith, c.requires, c.loop-byte.invariant.len, length-take-le c.loop-byte.byte-index c.args.bytes.now (omega (arith, c.loop-byte-test.true)), c.loop-byte-test.true)

pub loop-byte-preserved : goal.loop-byte-preserved
loop-byte-preserved c = search (rules, one_more)

pub returns : goal.returns
returns c = subst (λ (t : List ℕ). Adds c.args.page.now t c.loop-byte.page) (take_all c.loop-byte.byte-index c.args.bytes.now (omega arith)) c.loop-byte.invariant
