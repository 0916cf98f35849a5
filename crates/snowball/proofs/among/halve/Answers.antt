-- `among::halve` meets its contract. Assumes nothing.
use mathlib.Core.Path.{◌≡◌, sym, ap, ◌∙◌, subst}
use mathlib.Core.Logic.{◌⊎◌, inl, inr}
use mathlib.Core.Bool.{Bool, true, false}
use mathlib.Core.List.{List, []}
use Prim.Native.Nat.{ℕ, ◌+◌, ◌-◌, ◌/◌, ◌≤◌, ◌<◌}
use native.Mathlib.Omega.{arith}
use lib.ListN.{length, get_or, take}
use Rattle.snowball.specs.Rows.{keys_by, before}
use Rattle.snowball.specs.Search.{lcp}
use Rattle.snowball.specs.declared.tables.Direction.{Ghosts}
use Rattle.snowball.specs.declared.tables.Among.{Among}
use Rattle.snowball.proofs.Read.{keys_by_at}
use Rattle.snowball.proofs.Searched.{rows, count}
use Rattle.snowball.proofs.Halving.{Half, Cut, start, in_rows, shares, turned, again, again-first, out_later}
use Rattle.snowball.proofs.among.halve.Goals as goal
use Rattle.snowball.proofs.among.halve.Goals.{then-r, else-r}

-- at the loop's head: the table, the text and the row in the middle
module _ {X : Type 0} {d : Ghosts X} (t : Among X d) {s : List ℕ} {i j ci cj : ℕ} {f : Bool} (H : Half (keys_by d.read t.rows.now t.lens.now) s i j ci cj f) where
  abbrev k : ℕ
  k = i + (j - i) / 2

  k_in : k < length t.rows.now
  k_in = omega (arith, in_rows (rows t) H, count t)

  module _ (row : List ℕ) (e : row ≡ take (get_or t.lens.now k 0) (get_or t.rows.now k [])) where
    key : get_or (keys_by d.read t.rows.now t.lens.now) k [] ≡ d.read row
    key = keys_by_at d.read t.rows.now t.lens.now k k_in ∙ ap d.read (sym e)

    shared : (m : ℕ) → m ≤ ci → m ≤ cj → m ≤ lcp (d.read row) s
    shared = shares (rows t) H (d.read row) key

    cut : (c : ℕ) (less : Bool) {i' j' ci' cj' : ℕ} → c ≡ lcp (d.read row) s → less ≡ before s (d.read row)
        → ((less ≡ true) × (i' ≡ i) × (j' ≡ k) × (ci' ≡ ci) × (cj' ≡ c)) ⊎ ((less ≡ false) × (i' ≡ k) × (j' ≡ j) × (ci' ≡ c) × (cj' ≡ cj))
        → Cut (keys_by d.read t.rows.now t.lens.now) s i' j' ci' cj' f
    cut = turned (rows t) H (d.read row) key

pub loop-j-init : goal.loop-j-init
loop-j-init g c =
    let t = c.args.table.now in
    subst (λ (n : ℕ). Half (keys_by g.D.Direction.read t.rows.now t.lens.now) (g.D.Direction.read c.args.text.now) 0 n 0 0 false)
    (count t) (start _ _ (rows t).one)

pub row-requires : goal.row-requires
row-requires g c = k_in c.args.table.now c.loop-j.invariant

pub compare-r-requires : goal.compare-r-requires
compare-r-requires g c =
    record { from_bound = shared c.args.table.now c.loop-j.invariant c.row.result.now c.row.ensures.bytes c.min-common.result (omega (arith, c.min-common.ensures)) (omega (arith, c.min-common.ensures)) }

pub loop-j-preserved-then-j-i-le1 : goal.loop-j-preserved-then-j-i-le1
loop-j-preserved-then-j-i-le1 g c =
    let n = cut c.args.table.now c.loop-j.invariant c.row.result.now c.row.ensures.bytes c.compare-r.result.common c.compare-r.result.less c.compare-r.ensures.common_value c.compare-r.ensures.less_value
    (elim c.if-r.branch [
      | then-r w ↦ inl (w.if-r.true, w.i-is, w.j-is, w.common_i-is, w.common_j-is)
      | else-r w ↦ inr (w.if-r.false, w.i-is, w.j-is, w.common_i-is, w.common_j-is)
    ]) in
    again-first n c.if-j-i-le1.true c.if-i-gt0.false c.if-j-i.false

pub loop-j-preserved : goal.loop-j-preserved
loop-j-preserved g c =
    let n = cut c.args.table.now c.loop-j.invariant c.row.result.now c.row.ensures.bytes c.compare-r.result.common c.compare-r.result.less c.compare-r.ensures.common_value c.compare-r.ensures.less_value
    (elim c.if-r.branch [
      | then-r w ↦ inl (w.if-r.true, w.i-is, w.j-is, w.common_i-is, w.common_j-is)
      | else-r w ↦ inr (w.if-r.false, w.i-is, w.j-is, w.common_i-is, w.common_j-is)
    ]) in
    again n c.if-j-i-le1.false

pub returns-then-i-gt0 : goal.returns-then-i-gt0
returns-then-i-gt0 g c =
    let n = cut c.args.table.now c.loop-j.invariant c.row.result.now c.row.ensures.bytes c.compare-r.result.common c.compare-r.result.less c.compare-r.ensures.common_value c.compare-r.ensures.less_value
    (elim c.if-r.branch [
      | then-r w ↦ inl (w.if-r.true, w.i-is, w.j-is, w.common_i-is, w.common_j-is)
      | else-r w ↦ inr (w.if-r.false, w.i-is, w.j-is, w.common_i-is, w.common_j-is)
    ]) in
    out_later n c.if-j-i-le1.true c.if-i-gt0.true
