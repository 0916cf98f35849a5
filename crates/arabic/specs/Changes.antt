-- The changes of items 3 and 4 as an environment notes them: a number for each, of its step and its row.
use Rattle.std.specs.Prelude.{ℕ, ◌+◌, ◌*◌, ◌≡◌, List, [], ◌∷◌, ◌++◌, length, take, set}
use Rattle.definition.specs.Endings.{SuffixStep, verb_step1, verb_step2a, verb_step2b, verb_step2c, noun_step1b, noun_step2a, noun_step2b, noun_step2c1, noun_step2c2, noun_step3, Cut}
use Rattle.definition.specs.Fronts.{PrefixStep, prefix_step1, prefix_step2, prefix_step3a_noun, prefix_step3b_noun, prefix_step3_verb, prefix_step4_verb, Applied}
use Rattle.snowball.specs.declared.env.Env.{Env}

-- the steps' numbers
abbrev pub suffix_number : SuffixStep → ℕ
suffix_number verb_step1 = 0
suffix_number verb_step2a = 1
suffix_number verb_step2b = 2
suffix_number verb_step2c = 3
suffix_number noun_step1b = 4
suffix_number noun_step2a = 5
suffix_number noun_step2b = 6
suffix_number noun_step2c1 = 7
suffix_number noun_step2c2 = 8
suffix_number noun_step3 = 9

abbrev pub prefix_number : PrefixStep → ℕ
prefix_number prefix_step1 = 10
prefix_number prefix_step2 = 11
prefix_number prefix_step3a_noun = 12
prefix_number prefix_step3b_noun = 13
prefix_number prefix_step3_verb = 14
prefix_number prefix_step4_verb = 15

-- a change's number: 16 times that of its step, and its row
abbrev pub cut_number : Cut → ℕ
cut_number c = 16 * suffix_number c.step + c.row

abbrev pub front_number : Applied → ℕ
front_number m = 16 * prefix_number m.step + m.row

-- the numbers in the order made, of a list with the last one foremost
abbrev pub in_order : {A : Type 0} → (A → ℕ) → List A → List ℕ
in_order number [] = []
in_order number (x ∷ xs) = in_order number xs ++ (number x ∷ [])

abbrev pub cut_numbers : List Cut → List ℕ
cut_numbers cs = in_order cut_number cs

abbrev pub front_numbers : List Applied → List ℕ
front_numbers ms = in_order front_number ms

-- the changes that e has noted are those with the numbers ns
pub record Noted (e : Env) (ns : List ℕ) : Type 0 where
  pub made : e.made ≡ length ns
  pub changes : take (length ns) e.changes ≡ ns

-- e with one change more
abbrev pub with_change : Env → ℕ → Env
with_change e n = record {
  cursor = e.cursor;
  limit = e.limit;
  limit_backward = e.limit_backward;
  bra = e.bra;
  ket = e.ket;
  made = e.made + 1;
  current = e.current;
  places = e.places;
  changes = set e.changes e.made n;
}
