-- `stem_places` meets its contract: the checks, the buffer, the output, and then both are written. Assumes nothing.
use mathlib.Core.Path.{◌≡◌, refl, sym, ap, ◌∙◌}
use borrow.Author.Rules.{rules}
use native.Mathlib.Omega.{arith}
use lib.ListN.{length}
use lib.Seq.{length-take-le}
use Rattle.std.specs.Prelude.{Ok, Err}
use Rattle.std.proofs.lemmas.Result.{err_from_is_err_and}
use Rattle.definition.specs.Words.{Word}
use Rattle.definition.specs.Stem.{chain}
use Rattle.places.proofs.Lists.{typed_unmarked}
use Rattle.snowball.specs.Stands.{work_size}
use Rattle.stemmer.specs.declared.outcome.Refusal.TheVariants.{Bad}
use Rattle.places.specs.Places.{places}
use Rattle.stemmer.specs.Entries.{Answer, letters, out_after}
use Rattle.stemmer.specs.Numbers.{stem_letters, with_letters, numbers_after}
use Rattle.stemmer.proofs.Answers.{bad_word, number}
use Rattle.stemmer.proofs.Without.{left-stem}
use Rattle.stemmer.proofs.Placing.{refused, promised, spells, fits_beside, unplaced, counted, room_for, placed, beside_is}
use Rattle.stemmer.proofs.stem_places.Goals as goal

pub returns-in_err-check_word : goal.returns-in_err-check_word
unfolding out_after numbers_after
returns-in_err-check_word c =
    let a = c.args in
    let e = c.in_err-check_word in
    let p = err_from_is_err_and c.from_residual.result c.from_residual.ensures.1 in
    promised a.word.now a.out.now a.numbers.now (Err (Bad e.field-0.0)) (sym (refused a.word.now a.out.now a.numbers.now e.field-0.0 (sym e.ensures))) (λ z. absurd (bad_word e.field-0.0 z))
    a.out.now refl a.numbers.now refl c.from_residual.result (p.1 ∙ ap Err p.2)

pub slice_bounds-text-end : goal.slice_bounds-text-end
slice_bounds-text-end c =
    let v = c.stem-found.result.env in
    let n : length v.current ≡ work_size = search rules in
    let s = (c.stem-found.ensures _ c.unmarked_env.ensures.0).0.within in
    sym (length-take-le v.limit v.current (omega arith))

pub returns-then-letters-numbers : goal.returns-then-letters-numbers
returns-then-letters-numbers c =
    let a = c.args in
    let v = c.stem-found.result.env in
    let s = left-stem (letters a.word.now) v (c.stem-found.ensures _ c.unmarked_env.ensures.0).0 in
    unplaced a.word.now a.out.now a.numbers.now (sym c.in_ok-check_word.ensures) v s _ refl c.count_chars-letters.result c.count_chars-letters.ensures.by_letters c.if-letters-numbers.true

pub returns-in_err-count : goal.returns-in_err-count
unfolding numbers_after
returns-in_err-count c =
    let a = c.args in
    let v = c.stem-found.result.env in
    let s = left-stem (letters a.word.now) v (c.stem-found.ensures _ c.unmarked_env.ensures.0).0 in
    let d = c.deliver in
    let e = c.in_err-count in
    let p = err_from_is_err_and c.from_residual-in_err-count.result c.from_residual-in_err-count.ensures.1 in
    placed a.word.now a.out.now a.numbers.now (sym c.in_ok-check_word.ensures) v s _ refl c.count_chars-letters.result c.count_chars-letters.ensures.by_letters
    c.if-letters-numbers.false d.result d.ensures.value
    d.new.out d.ensures.out_after
    a.numbers.now (sym (ap (λ (x : Answer). numbers_after x (places (letters a.word.now)) a.numbers.now) e.was))
    c.from_residual-in_err-count.result (p.1 ∙ ap Err p.2 ∙ sym (ap (λ (x : Answer). with_letters x (number a.word.now) (length (stem_letters a.word.now))) e.was))

pub put_numbers-requires-clause-spelt : goal.put_numbers-requires-clause-spelt
put_numbers-requires-clause-spelt c =
    let a = c.args in
    let v = c.stem-found.result.env in
    let s = left-stem (letters a.word.now) v (c.stem-found.ensures _ c.unmarked_env.ensures.0).0 in
    record { word = stem_letters a.word.now; encodes = spells a.word.now a.out.now a.numbers.now (sym c.in_ok-check_word.ensures) v s _ refl }

pub put_numbers-requires-clause-fits : goal.put_numbers-requires-clause-fits
put_numbers-requires-clause-fits c =
    let a = c.args in
    let v = c.stem-found.result.env in
    let s = left-stem (letters a.word.now) v (c.stem-found.ensures _ c.unmarked_env.ensures.0).0 in
    let n : length v.places ≡ work_size = search rules in (
      fits_beside a.word.now a.out.now a.numbers.now (sym c.in_ok-check_word.ensures) v s _ refl v.places n,
      room_for a.word.now a.out.now a.numbers.now (sym c.in_ok-check_word.ensures) v s _ refl c.count_chars-letters.result c.count_chars-letters.ensures.by_letters c.if-letters-numbers.false,
    )

pub returns : goal.returns
returns c =
    let a = c.args in
    let w = letters a.word.now in
    let v = c.stem-found.result.env in
    let s = left-stem (letters a.word.now) v (c.stem-found.ensures _ c.unmarked_env.ensures.0).0 in
    let d = c.deliver in
    let n = c.count_chars-letters in
    let count = n.ensures.by_letters in
    let e = sym c.in_ok-check_word.ensures in
    let b = beside_is a.word.now a.out.now a.numbers.now e v s _ refl n.result count c.if-letters-numbers.false c.put_numbers.new.numbers
    c.put_numbers.ensures c.in_ok-count.count in
    placed a.word.now a.out.now a.numbers.now e v s _ refl n.result count
    c.if-letters-numbers.false d.result d.ensures.value
    d.new.out d.ensures.out_after
    c.put_numbers.new.numbers (b ∙ sym (ap (λ (x : Answer). numbers_after x (places w) a.numbers.now) c.in_ok-count.was)) _
    ((λ i. Ok (record {
      count = c.in_ok-count.count;
      endings = ((c.stem-found.ensures _ c.unmarked_env.ensures.0).1 ∙ ap (λ (x : Word). length (chain x)) (typed_unmarked w)) i;
      letters = counted a.word.now a.out.now a.numbers.now e v s _ refl n.result count c.if-letters-numbers.false i;
    }))
    ∙ sym (ap (λ (x : Answer). with_letters x (number a.word.now) (length (stem_letters a.word.now))) c.in_ok-count.was))
