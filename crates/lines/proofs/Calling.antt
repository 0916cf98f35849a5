-- A run by calls of `feed` and `finish` writes what the machine writes for the pieces joined. Assumes nothing.
use mathlib.Core.Path.{◌≡◌, refl, sym, ap, ◌∙◌}
use mathlib.Core.List.{List, [], ◌∷◌, ◌++◌, append_assoc, flatten}
use Prim.Native.Nat.{ℕ, zero, suc, ◌-◌, ◌<◌, ◌≤◌}
use native.Mathlib.Omega.{arith}
use lib.ListN.{length, take, drop, replicate, length-append, length-drop, length-replicate, take-append-drop}
use lib.Seq.{take_at}
use Rattle.lines.specs.Plain.{output}
use Rattle.lines.specs.Machine.{ByKept, Reading, start, after, written, last_line, taken, Feeds, Ends}
use Rattle.lines.specs.Calls.{Calls, finished, passed, fed}
use Rattle.lines.proofs.Lists.{rest-length}
use Rattle.lines.proofs.Runs.{after-append, written-append, taken_some, taken-within}
use Rattle.lines.proofs.Whole.{run, whole}

module _ (answer : List ℕ → List ℕ) (room : ℕ) where
  run_none : (s : Reading) → run answer s [] ≡ last_line answer s
  unfolding run written after
  run_none s = refl

  run-append : (s : Reading) (xs ys : List ℕ) → run answer s (xs ++ ys) ≡ written answer s xs ++ run answer (after s xs) ys
  unfolding run
  run-append s xs ys = rw (written-append answer, after-append, append_assoc)

  -- what a call wrote
  end_wrote : {s : Reading} {o o' : List ℕ} {count : ℕ} → Ends answer s o o' count → take count o' ≡ last_line answer s
  end_wrote {s} {o} {o'} {count} e = ap (take count) e.out ∙ take_at (last_line answer s) (drop count o) count (sym e.counts)

  feed_wrote : {i : List ℕ} {s s' : Reading} {o o' : List ℕ} {used count : ℕ} → Feeds answer room i s s' o o' used count → take count o' ≡ written answer s (take used i)
  feed_wrote {i} {s} {s'} {o} {o'} {used} {count} f =
      ap (take count) f.out ∙ take_at (written answer s (take used i)) (drop count o) count (sym f.counts)

  calls_run : {s : Reading} {pieces : List (List ℕ)} {w : List ℕ} → Calls answer room s pieces w → w ≡ run answer s (flatten pieces)
  unfolding flatten
  calls_run (finished {s} e) = end_wrote e ∙ sym (run_none s)
  calls_run (passed c) = calls_run c
  calls_run (fed {s} {piece = piece} {used = used} {pieces = pieces} f c) =
      let first = take used piece in
      let rest = drop used piece ++ flatten pieces in
      let whole-piece : first ++ rest ≡ piece ++ flatten pieces = sym (append_assoc first (drop used piece) (flatten pieces)) ∙ ap (λ (t : List ℕ). t ++ flatten pieces) (take-append-drop used piece) in
      rw (feed_wrote f, calls_run c, f.state) (sym (run-append s first rest) ∙ ap (run answer s) whole-piece)

  pub calls_output : ByKept answer → {s : Reading} {pieces : List (List ℕ)} {w : List ℕ} → s ≡ start → Calls answer room s pieces w → w ≡ output answer (flatten pieces)
  unfolding run
  calls_output kept {pieces = pieces} e c = calls_run c ∙ (ap (λ (r : Reading). run answer r (flatten pieces)) e ∙ whole answer kept (flatten pieces))

  -- a call with room for any line takes a byte
  pub feeds_some : {i : List ℕ} {s s' : Reading} {o o' : List ℕ} {used count : ℕ} → Feeds answer room i s s' o o' used count → room ≤ length o → 1 ≤ length i → 1 ≤ used
  feeds_some {i} {s} {o = o} f h k = omega (arith, f.takes, taken_some answer room (length o) s i h k)

  -- so what it leaves of a piece, as `&piece[used..]` shows it, is shorter
  pub rest_shorter : {i : List ℕ} {s s' : Reading} {o o' : List ℕ} {used count : ℕ} → Feeds answer room i s s' o o' used count → room ≤ length o → 1 ≤ length i
      → length (take (length i - used) (drop used i)) < length i
  rest_shorter {i} {used = used} f h k = omega (arith, feeds_some f h k, rest-length i used)

  -- ---- there is such a run for every list of pieces

  -- the call of `feed` on a piece with an output o
  one_feed : (i : List ℕ) (s : Reading) (o : List ℕ)
      → Feeds answer room i s (after s (take (taken answer room (length o) s i) i)) o
      (written answer s (take (taken answer room (length o) s i) i) ++ drop (length (written answer s (take (taken answer room (length o) s i) i))) o)
      (taken answer room (length o) s i) (length (written answer s (take (taken answer room (length o) s i) i)))
  one_feed i s o =
      let w = written answer s (take (taken answer room (length o) s i) i) in record {
        takes = refl;
        state = refl;
        counts = refl;
        out = refl;
        within = taken-within answer room (length o) s i;
        fits = simp length-append (omega arith);
      }

  -- all calls on one piece, of at most n bytes
  one_piece : (n : ℕ) (s : Reading) (p : List ℕ) (ps : List (List ℕ)) → length p ≤ n → ((s : Reading) → (w : List ℕ) × Calls answer room s ps w)
      → (w : List ℕ) × Calls answer room s (p ∷ ps) w
  one_piece zero s [] ps h more = ((more s).0, passed (more s).1)
  one_piece (suc n) s [] ps h more = ((more s).0, passed (more s).1)
  one_piece zero s (b ∷ bs) ps h more = absurd (omega arith)
  one_piece (suc n) s (b ∷ bs) ps h more =
      let i = b ∷ bs in
      let o : List ℕ = replicate room 0 in
      let used = taken answer room (length o) s i in
      let some = taken_some answer room (length o) s i (omega (arith, length-replicate {A = ℕ} room 0)) (omega arith) in
      let rest = one_piece n (after s (take used i)) (drop used i) ps (simp length-drop (omega (arith, some))) more in
      (_, fed (one_feed i s o) rest.1)

  pub calls_are : (s : Reading) (pieces : List (List ℕ)) → (w : List ℕ) × Calls answer room s pieces w
  calls_are s [] = (_, finished {o = []} (record { counts = refl; out = refl }))
  calls_are s (p ∷ ps) = one_piece (length p) s p ps (omega arith) (λ t. calls_are t ps)
