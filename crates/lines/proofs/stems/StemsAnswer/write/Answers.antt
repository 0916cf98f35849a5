-- `Stems::write` meets its contract: each arm knows what `stem` answered, and what that leaves in the output; code 3 is not met. Assumes nothing.
use mathlib.Core.Path.{◌≡◌, sym, ap, ◌∙◌}
use mathlib.Core.List.{List, [], ◌∷◌, ◌++◌, append_assoc}
use Prim.Native.Nat.{ℕ, ◌+◌, ◌≤◌}
use native.Mathlib.Omega.{arith}
use lib.ListN.{length, take, drop, set, length-append, take-append-drop}
use lib.Seq.{length-take-le, length_front}
use Rattle.std.specs.Prelude.{Result, Ok, Err}
use Rattle.stemmer.specs.declared.outcome.Stem.{Stem}
use Rattle.stemmer.specs.declared.outcome.Refusal.{Refusal}
use Rattle.stemmer.specs.Entries.{Answer, refusal_code, without_endings, stem_bytes, stem_answer, stem_entry, out_after}
use Rattle.stemmer.proofs.Answers.{done-fits, done_count, entry_answer}
use Rattle.lines.specs.Plain.{line_feed}
use Rattle.lines.specs.Refusals.{refusal}
use Rattle.lines.specs.Stems.{answer_line, stem_room, line_room}
use Rattle.lines.proofs.Answering.{line_done, line_refused}
use Rattle.lines.proofs.Lists.{rejoin, ended}
use Rattle.lines.proofs.stems.StemsAnswer.write.Goals as goal

-- the room that `stem` is lent
lent : (o : List ℕ) → line_room ≤ length o → length (take stem_room o) ≡ stem_room
lent o h = length-take-le stem_room o (omega arith)

-- what it answers there
answered : (w o : List ℕ) → line_room ≤ length o → (r : Result Stem Refusal) → r ≡ stem_entry w (length (take stem_room o)) → stem_answer w stem_room ≡ without_endings r
answered w o h r e = sym (ap without_endings e ∙ (entry_answer w (length (take stem_room o)) ∙ ap (stem_answer w) (lent o h)))

-- and what it leaves there: o is the output before, and part the room afterwards
left : (w o part : List ℕ) → line_room ≤ length o → part ≡ out_after (stem_answer w (length (take stem_room o))) (stem_bytes w) (take stem_room o)
    → (a : Answer) → stem_answer w stem_room ≡ a → part ≡ out_after a (stem_bytes w) (take stem_room o)
left w o part h e a q = e ∙ ap (λ (x : Answer). out_after x (stem_bytes w) (take stem_room o)) (ap (stem_answer w) (lent o h) ∙ q)

module _ (w o part : List ℕ) (h : line_room ≤ length o)
    (e : part ≡ out_after (stem_answer w (length (take stem_room o))) (stem_bytes w) (take stem_room o)) where
  when-done : (n : ℕ) → stem_answer w stem_room ≡ Ok n
      → (n + 1 ≡ length (answer_line w)) × (set (part ++ drop stem_room o) n line_feed ≡ answer_line w ++ drop (n + 1) o)
  unfolding out_after
  when-done n q =
      let k : length (stem_bytes w) ≡ n = done_count w stem_room n q in
      let m : n ≤ stem_room = done-fits w stem_room n q in
      let l : part ≡ stem_bytes w ++ drop n (take stem_room o) = left w o part h e (Ok n) q in
      let f : part ++ drop stem_room o ≡ stem_bytes w ++ drop n o = rw (l, append_assoc, rejoin n stem_room o m (omega arith)) in
      (rw (line_done w n q, length-append) (omega arith), rw (f, line_done w n q) (ended (stem_bytes w) o n line_feed k (omega arith)))

  when-refused : (r : Refusal) → stem_answer w stem_room ≡ Err r
      → (3 ≡ length (answer_line w)) × (refusal (refusal_code r) ++ line_feed ∷ drop 3 (part ++ drop stem_room o) ≡ answer_line w ++ drop 3 o)
  unfolding out_after
  when-refused r q =
      let f : answer_line w ≡ refusal (refusal_code r) ++ line_feed ∷ [] = line_refused w r q in
      let l : part ≡ take stem_room o = left w o part h e (Err r) q in
      let g : part ++ drop stem_room o ≡ o = ap (λ (t : List ℕ). t ++ drop stem_room o) l ∙ take-append-drop stem_room o in
      (rw f, rw (g, f))

pub slice_bounds-stem-end-2 : goal.slice_bounds-stem-end-2
slice_bounds-stem-end-2 c = sym (lent c.args.out.now c.requires)

pub bounds-out-found : goal.bounds-out-found
bounds-out-found c =
    let x = c.args in
    let small = done-fits x.line.now stem_room c.in-Ok.found.count (answered x.line.now x.out.now c.requires (Ok c.in-Ok.found) c.in-Ok.ensures.value) in
    omega (arith, small, c.requires, length_front x.out.now c.stem.new.out stem_room c.stem.auto.out)

pub overflow_add-result : goal.overflow_add-result
overflow_add-result c =
    let x = c.args in
    omega (arith, done-fits x.line.now stem_room c.in-Ok.found.count (answered x.line.now x.out.now c.requires (Ok c.in-Ok.found) c.in-Ok.ensures.value))

pub returns-in-Ok : goal.returns-in-Ok
returns-in-Ok c =
    let x = c.args in
    let d = when-done x.line.now x.out.now c.stem.new.out c.requires c.stem.ensures.out_after c.in-Ok.found.count
    (answered x.line.now x.out.now c.requires (Ok c.in-Ok.found) c.in-Ok.ensures.value) in
    record { value = d.0; out_after = d.1 }

pub returns-in-Err : goal.returns-in-Err
returns-in-Err c =
    let x = c.args in
    let d = when-refused x.line.now x.out.now c.stem.new.out c.requires c.stem.ensures.out_after c.in-Err.refusal
    (answered x.line.now x.out.now c.requires (Err c.in-Err.refusal) c.in-Err.ensures.value) in
    record { value = c.refuse.ensures.value ∙ d.0; out_after = rw c.refuse.ensures.value (c.refuse.ensures.out_after ∙ d.1) }
