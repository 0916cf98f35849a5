-- The machine writes what the plain definition says, for every input. Assumes nothing.
use mathlib.Core.Path.{◌≡◌, refl, sym, ap, ◌∙◌}
use mathlib.Core.Bool.{Bool, true, false}
use mathlib.Core.List.{List, [], ◌∷◌, ◌++◌, append_assoc, append-nil, flat_map}
use Prim.Native.Nat.{ℕ, ◌+◌, ◌<◌, ◌≤◌}
use native.Mathlib.Omega.{arith}
use lib.Dec.{eqb}
use lib.ListN.{length, take, length-append, length-take}
use lib.Seq.{take_all, take_at, drop_at, take-append-le, length-take-le}
use borrow.Author.Tests.{lt-ltb, le-ltb, ne_eqb}
use Rattle.definition.specs.Words.{same, begins_with}
use Rattle.definition.proofs.Match.{by, by_le}
use Rattle.lines.specs.Plain.{line_feed, mark, skip_mark, lines_of, output}
use Rattle.lines.specs.Line.{put_behind}
use Rattle.lines.specs.Machine.{kept_bytes, ByKept, Reading, start, opened, step, said, after, written, last_line}
use Rattle.lines.proofs.Opening.{opened-three, opened_later, opened-other, uncut, lf_no_mark}
use Rattle.lines.proofs.Runs.{last_none, last_some}
use Rattle.lines.proofs.Splitting.{NoLf, no_lf_behind, line_first, line_last}

-- one byte, by whether it is LF
step_lf : (s : Reading) (b : ℕ) → eqb b line_feed ≡ true → step s b ≡ (false, [])
unfolding step
step_lf s b e = simp e

step_no : (s : Reading) (b : ℕ) → eqb b line_feed ≡ false → step s b ≡ opened s.0 (put_behind kept_bytes s.1 b)
unfolding step
step_no s b e = simp e

-- the bytes that are kept of a longer line
kept_more : (w : List ℕ) (b : ℕ) → put_behind kept_bytes (take kept_bytes w) b ≡ take kept_bytes (w ++ b ∷ [])
unfolding put_behind
kept_more w b = by_le kept_bytes (length w)
    (λ h. simp (le-ltb (length (take kept_bytes w)) kept_bytes (omega (arith, length-take-le kept_bytes w h))) (sym (take-append-le kept_bytes w (b ∷ []) h)))
    (λ h.
    let e : take kept_bytes w ≡ w = take_all kept_bytes w (omega arith) in
    rw e (simp (lt-ltb (length w) kept_bytes h) (sym (take_all kept_bytes (w ++ b ∷ []) (simp length-append (omega arith))))))

empty_kept : (w : List ℕ) → eqb (length (take kept_bytes w)) 0 ≡ eqb (length w) 0
empty_kept [] = refl
empty_kept (x ∷ xs) =
    ne_eqb (length (take kept_bytes (x ∷ xs))) 0 (λ e. omega (arith, length-take kept_bytes (x ∷ xs)))
    ∙ sym (ne_eqb (length (x ∷ xs)) 0 (λ e. omega arith))

put_short : (p : List ℕ) (b : ℕ) → length p < 3 → put_behind kept_bytes p b ≡ p ++ b ∷ []
unfolding put_behind
put_short p b h = simp (lt-ltb (length p) kept_bytes (omega arith))

module _ (answer : List ℕ → List ℕ) where
  -- what is written from a reading on, the end of the input included
  unfoldable pub run : Reading → List ℕ → List ℕ
  run s i = written answer s i ++ last_line answer (after s i)

  -- the lines of a list, answered
  answered : List ℕ → List ℕ
  answered i = flat_map answer (lines_of i)

  run_cons : (s : Reading) (b : ℕ) (bs : List ℕ) → run s (b ∷ bs) ≡ said answer s b ++ run (step s b) bs
  unfolding run written after
  run_cons s b bs = append_assoc (said answer s b) (written answer (step s b) bs) (last_line answer (after (step s b) bs))

  said_lf : (s : Reading) (b : ℕ) → eqb b line_feed ≡ true → said answer s b ≡ answer s.1
  unfolding said
  said_lf s b e = simp e

  said_no : (s : Reading) (b : ℕ) → eqb b line_feed ≡ false → said answer s b ≡ []
  unfolding said
  said_no s b e = simp e

  run_lf : (s : Reading) (b : ℕ) (bs : List ℕ) → eqb b line_feed ≡ true → run s (b ∷ bs) ≡ answer s.1 ++ run (false, []) bs
  run_lf s b bs e = run_cons s b bs ∙ rw (said_lf s b e, step_lf s b e)

  run_no : (s : Reading) (b : ℕ) (bs : List ℕ) → eqb b line_feed ≡ false → run s (b ∷ bs) ≡ run (opened s.0 (put_behind kept_bytes s.1 b)) bs
  run_no s b bs e = run_cons s b bs ∙ rw (said_no s b e, step_no s b e)

  answered_lf : (w : List ℕ) (b : ℕ) (bs : List ℕ) → NoLf w → eqb b line_feed ≡ true → answered (w ++ b ∷ bs) ≡ answer w ++ answered bs
  unfolding answered flat_map
  answered_lf w b bs n e = ap (flat_map answer) (line_first w b bs n e)

  answered_last : (w : List ℕ) → NoLf w → last_line answer (false, w) ≡ answered w
  unfolding answered flat_map lines_of
  answered_last [] n = last_none answer (false, []) refl
  answered_last (x ∷ xs) n =
      last_some answer (false, x ∷ xs) (λ e. omega arith) ∙ sym (ap (flat_map answer) (line_last x xs n) ∙ append-nil (answer (x ∷ xs)))

  module _ (kept : ByKept answer) where
    -- the first bytes of a last line are answered as the line is, whether the opening mark may still come or not
    pub last-kept : (opening : Bool) (w : List ℕ) → last_line answer (opening, take kept_bytes w) ≡ last_line answer (opening, w)
    unfolding last_line
    last-kept opening w = rw (empty_kept, kept)

    -- behind the opening: w is the line as far as it was read, of any length
    later : (w bs : List ℕ) → NoLf w → run (false, take kept_bytes w) bs ≡ answered (w ++ bs)
    unfolding run written after
    later w [] n = last-kept false w ∙ rw append-nil (answered_last w n)
    later w (b ∷ bs) n = by (eqb b line_feed)
        (λ e. run_lf (false, take kept_bytes w) b bs e ∙ rw (kept, later [] bs tt) (sym (answered_lf w b bs n e)))
        (λ e.
        run_no (false, take kept_bytes w) b bs e
        ∙ rw (opened_later false (put_behind kept_bytes (take kept_bytes w) b) refl, kept_more)
        (later (w ++ b ∷ []) bs (no_lf_behind w b n e) ∙ ap answered (append_assoc w (b ∷ []) bs)))

    later_short : (w bs : List ℕ) → length w ≤ kept_bytes → NoLf w → run (false, w) bs ≡ answered (w ++ bs)
    later_short w bs h n = ap (λ (l : List ℕ). run (false, l) bs) (sym (take_all kept_bytes w h)) ∙ later w bs n

    -- the third byte of the input decides
    third : (q bs : List ℕ) → length q ≡ 3 → NoLf q → (r : Bool) → same q mark ≡ r → run (opened true q) bs ≡ answered (skip_mark (q ++ bs))
    unfolding skip_mark begins_with
    third q bs h n true e = rw (opened-three true q true refl h e, take_at q bs 3 h, drop_at q bs 3 h, e) (later_short [] bs (omega arith) tt)
    third q bs h n false e = rw (opened-three true q false refl h e, take_at q bs 3 h, e) (later_short q bs (omega arith) n)

    -- the opening: p is what was read of the first line
    first : (p bs : List ℕ) → length p < 3 → NoLf p → run (true, p) bs ≡ answered (skip_mark (p ++ bs))
    unfolding run written after last_line
    first p [] h n =
        let u = uncut (p ++ []) (λ e. omega (arith, ap length e, length-take 3 (p ++ []), length-append p [])) in
        answered_last p n ∙ sym (ap answered (u ∙ append-nil p))
    first p (b ∷ bs) h n = by (eqb b line_feed)
        (λ e.
        let u = uncut (p ++ b ∷ bs) (lf_no_mark p bs b h e) in
        run_lf (true, p) b bs e ∙ rw (later_short [] bs (omega arith) tt) (sym (ap answered u ∙ answered_lf p b bs n e)))
        (λ e.
        let l : length (p ++ b ∷ []) ≡ length p + 1 = length-append p (b ∷ []) in
        let m = no_lf_behind p b n e in
        let a : (p ++ b ∷ []) ++ bs ≡ p ++ b ∷ bs = append_assoc p (b ∷ []) bs in
        run_no (true, p) b bs e
        ∙ rw (put_short p b h, ← a)
        (by_le (length p) 1
        (λ k. rw (opened-other true (p ++ b ∷ []) (λ t. omega arith)) (first (p ++ b ∷ []) bs (omega arith) m))
        (λ k. third (p ++ b ∷ []) bs (omega arith) m (same (p ++ b ∷ []) mark) refl)))

    pub whole : (i : List ℕ) → written answer start i ++ last_line answer (after start i) ≡ output answer i
    unfolding run answered output
    whole i = first [] i (omega arith) tt
