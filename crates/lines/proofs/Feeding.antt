-- What `feed` knows from turn to turn: the state and the output are those of the bytes passed. Assumes nothing.
use mathlib.Core.Path.{◌≡◌, refl, sym, ap, ◌∙◌}
use mathlib.Core.List.{List, [], ◌∷◌, ◌++◌, append_assoc}
use Prim.Native.Nat.{ℕ, suc, ◌+◌, ◌-◌, ◌<◌, ◌≤◌}
use native.Mathlib.Numerals.{add-one}
use native.Mathlib.Omega.{arith}
use lib.ListN.{length, take, drop, get_or, length-append, length-drop}
use lib.Seq.{length-take-le, take-suc, take_at, drop_at, drop-drop, drop-cons}
use borrow.Rule.Slice.PartMut.{put_mid}
use Rattle.lines.specs.Machine.{Reading, step, said, after, written, taken, Turns, Feeds}
use Rattle.std.proofs.lemmas.List.{take_rest}
use Rattle.lines.proofs.Lists.{rest-length, back_is}
use Rattle.lines.proofs.Runs.{after_one, written_one, taken_more, taken_none, taken-end}

-- i bytes of the input are passed, and at bytes are written
pub record Passed (answer : List ℕ → List ℕ) (room : ℕ) (input : List ℕ) (s₀ s : Reading) (out₀ out : List ℕ) (at i : ℕ) : Type 0 where
  pub within : i ≤ length input
  pub kept : length out ≡ length out₀
  pub fits : at ≤ length out
  pub state : s ≡ after s₀ (take i input)
  pub counts : at ≡ length (written answer s₀ (take i input))
  pub shown : out ≡ written answer s₀ (take i input) ++ drop at out₀
  pub takes : i + taken answer room (length out₀ - at) s (drop i input) ≡ taken answer room (length out₀) s₀ input

module _ (answer : List ℕ → List ℕ) (room : ℕ) where
  pub begun : (input : List ℕ) (s : Reading) (out : List ℕ) → Passed answer room input s s out out 0 0
  unfolding after written
  begun input s out =
      let e : length out - 0 ≡ length out = omega arith in record {
        within = omega arith;
        kept = refl;
        fits = omega arith;
        state = refl;
        counts = refl;
        shown = refl;
        takes = omega (arith, ap (λ (r : ℕ). taken answer room r s input) e);
      }

  -- a turn passes one byte more
  pub next : {input : List ℕ} {s₀ s s' : Reading} {out₀ out part : List ℕ} {at i count : ℕ} → Passed answer room input s₀ s out₀ out at i → i < length input → room ≤ length out - at
      → length part ≡ length (take (length out - at) (drop at out)) → Turns answer s s' (get_or input i 0) (take (length out - at) (drop at out)) part count
      → Passed answer room input s₀ s' out₀ (put_mid at (length out - at) out part) (at + count) (i + 1)
  next {input} {s₀} {s} {s'} {out₀} {out} {part} {at} {i} {count} p h k l t =
      let b = get_or input i 0 in
      let more : take (i + 1) input ≡ take i input ++ get_or input i 0 ∷ [] = rw add-one (take-suc input i 0 h) in
      let front : take at out ≡ written answer s₀ (take i input) = ap (take at) p.shown ∙ take_at (written answer s₀ (take i input)) (drop at out₀) at (sym p.counts) in
      let rest : drop at out ≡ drop at out₀ = ap (drop at) p.shown ∙ drop_at (written answer s₀ (take i input)) (drop at out₀) at (sym p.counts) in
      let part_is : part ≡ said answer s (get_or input i 0) ++ drop (at + count) out₀ = t.out ∙ rw (take_rest, rest, drop-drop) in
      let grown : written answer s₀ (take (i + 1) input) ≡ written answer s₀ (take i input) ++ said answer s (get_or input i 0) =
      ap (written answer s₀) more ∙ (written_one answer s₀ (take i input) b ∙ ap (λ (x : Reading). written answer s₀ (take i input) ++ said answer x b) (sym p.state)) in
      let same : length (put_mid at (length out - at) out part) ≡ length out₀ =
      ap length (back_is out part at) ∙ (length-append (take at out) part ∙ omega (arith, length-take-le at out p.fits, rest-length out at, l, p.kept, p.fits)) in
      let first_taken : taken answer room (length out₀ - at) s (drop i input) ≡ suc (taken answer room (length out₀ - at - length (said answer s b)) (step s b) (drop (suc i) input)) =
      ap (taken answer room (length out₀ - at) s) (drop-cons input i 0 h) ∙ taken_more answer room (length out₀ - at) s b (drop (suc i) input) (omega (arith, p.kept)) in
      let less : length out₀ - at - length (said answer s b) ≡ length out₀ - (at + count) = omega (arith, t.counts) in
      let then-taken : taken answer room (length out₀ - at - length (said answer s b)) (step s b) (drop (suc i) input) ≡ taken answer room (length out₀ - (at + count)) s' (drop (i + 1) input) =
      ap (λ (r : ℕ). taken answer room r (step s b) (drop (suc i) input)) less ∙ rw (t.state, add-one) in
      let within_part : count ≤ length part = omega (arith, t.counts, ap length t.out, length-append (said answer s b) (drop count (take (length out - at) (drop at out)))) in
      record {
        within = omega arith;
        kept = same;
        fits = omega (arith, same, within_part, p.kept, l, rest-length out at);
        state = t.state ∙ (ap (λ (x : Reading). step x b) p.state ∙ (sym (after_one s₀ (take i input) b) ∙ sym (ap (after s₀) more)));
        counts = rw (grown, length-append) (omega (arith, p.counts, t.counts));
        shown = back_is out part at ∙ rw (front, part_is, grown, append_assoc);
        takes = omega (arith, first_taken, then-taken, p.takes);
      }

  -- where no byte more is taken, the loop ends
  finished : {input : List ℕ} {s₀ s : Reading} {out₀ out : List ℕ} {at i : ℕ} → Passed answer room input s₀ s out₀ out at i → taken answer room (length out₀ - at) s (drop i input) ≡ 0
      → Feeds answer room input s₀ s out₀ out i at
  finished p e = record {
    takes = omega (arith, p.takes, e);
    state = p.state;
    counts = p.counts;
    out = p.shown;
    within = p.within;
    fits = p.fits;
  }

  pub input_ends : {input : List ℕ} {s₀ s : Reading} {out₀ out : List ℕ} {at i : ℕ} → Passed answer room input s₀ s out₀ out at i → length input ≤ i → Feeds answer room input s₀ s out₀ out i at
  input_ends {input} {s = s} {out₀ = out₀} {at = at} {i = i} p h = finished p (taken-end answer room (length out₀ - at) s (drop i input) (simp length-drop (omega arith)))

  pub room_ends : {input : List ℕ} {s₀ s : Reading} {out₀ out : List ℕ} {at i : ℕ} → Passed answer room input s₀ s out₀ out at i → length out - at < room → Feeds answer room input s₀ s out₀ out i at
  room_ends {input} {s = s} {out₀ = out₀} {at = at} {i = i} p h = finished p (taken_none answer room (length out₀ - at) s (drop i input) (omega (arith, p.kept)))
