-- The letter loop of item 5, in place and on plain values. Assumes nothing.
use mathlib.Core.Path.{◌≡◌, refl, sym, ap, ◌∙◌}
use mathlib.Core.List.{List, [], ◌∷◌, ◌++◌, append_assoc, append-nil}
use Prim.Native.Nat.{ℕ, ◌+◌, ◌-◌, ◌≤◌, ◌<◌}
use native.Mathlib.Omega.{arith}
use lib.Dec.{eqb}
use lib.ListN.{length, take, drop}
use lib.Seq.{take-append_seam}
use Rattle.std.proofs.Common.{take_all}
use borrow.Author.Tests.{eq-eqb, ne_eqb}
use Rattle.utf8.specs.Utf8.{encode1, encode}
use Rattle.utf8.proofs.Text.{encode1_pos}
use Rattle.definition.specs.Words.{Word}
use Rattle.definition.specs.Finish.{finish}
use Rattle.definition.proofs.Finish.{other_last}
use Rattle.definition.proofs.Match.{empty}
use Rattle.utf8.specs.Letters.{Read, Wrote}
use Rattle.utf8.specs.Spelt.{Encodes}
use Rattle.arabic.specs.Bytes.{LetterIs}
use Rattle.utf8.specs.declared.letters.Letter.{Letter}
use Rattle.arabic.specs.Texts.{changed, Finished}
use Rattle.arabic.proofs.FinishedLetter.{changed-size, changed_top}
use Rattle.utf8.proofs.Ahead as ahead
use Rattle.utf8.proofs.Ahead.{Ahead, Next, cons_size}

-- The loop's invariant: the bytes before i are those of the letters before, finished. The turns that are left are enough for the others.
pub record Inv (old : List ℕ) (turns : ℕ) (text : List ℕ) (i turn : ℕ) : Type 0 where
  pub to : Ahead old text i
  pub bytes : take i text ++ encode (finish to.rest) ≡ encode (finish to.word)
  pub enough : turn + length to.rest ≤ turns
  pub size : length text ≡ length old

pub start : (text : List ℕ) (turns : ℕ) (cs : Word) → Encodes text cs → length cs ≤ turns → Inv text turns text 0 0
start text turns cs e l = record { to = ahead.start text cs e; bytes = refl; enough = omega arith; size = refl }

-- a letter is the last where the text ends behind it
finish-step : (c : ℕ) (t : Word) (j limit : ℕ) → j + length (encode t) ≡ limit
    → encode (finish (c ∷ t)) ≡ encode1 (changed (eqb j limit) c) ++ encode (finish t)
unfolding finish encode
finish-step c [] j limit e = rw (eq-eqb j limit (omega arith), other_last c) refl
finish-step c (d ∷ t) j limit e = rw (ne_eqb j limit (λ (q : j ≡ limit). omega (arith, cons_size d t, encode1_pos d))) refl

module _ {old : List ℕ} {turns : ℕ} {text : List ℕ} {i k : ℕ} (v : Inv old turns text i k) where
  -- one turn: the letter l is read at i, and c is what it becomes
  module _ (h : i < length old) (l : Letter) (f : Read text i l) where
    abbrev n : Next text i (length old) v.to.rest
    n = ahead.next v.to h

    is : (l.code ≡ n.c) × (l.width ≡ length (encode1 n.c))
    is = ahead.read_is v.to h l f

    -- its bytes
    pub letter_is : (own : List ℕ) → own ≡ take (i + l.width - i) (drop i text) → LetterIs own l.code
    letter_is own p =
        let z : i + l.width - i ≡ length (encode1 n.c) = omega (arith, is.1) in
        record {
          scalar = rw is.0 n.at.0;
          same = p ∙ (λ j. take (z j) (n.at.1 j)) ∙ take-append_seam (encode1 n.c) (encode n.t) ∙ ap encode1 (sym is.0);
        }

    module _ (c : ℕ) (e : c ≡ changed (eqb (i + l.width) (length old)) l.code) where
      is_changed : c ≡ changed (eqb (i + l.width) (length old)) n.c
      is_changed = e ∙ ap (changed (eqb (i + l.width) (length old))) is.0

      same_size : length (encode1 c) ≡ l.width
      same_size = ap (λ (x : ℕ). length (encode1 x)) is_changed ∙ changed-size (eqb (i + l.width) (length old)) n.c ∙ sym is.1

      pub room : i + length (encode1 c) ≤ length old
      room = omega (arith, same_size, (ahead.moves v.to h l f).1)

      pub code_top : c < 0x110000
      code_top = omega (arith, is_changed, changed_top (eqb (i + l.width) (length old)) n.c n.at.0)

      rest-bytes : encode (finish v.to.rest) ≡ encode1 c ++ encode (finish n.t)
      rest-bytes =
          ap (λ (x : Word). encode (finish x)) n.is
          ∙ finish-step n.c n.t (i + l.width) (length old) (omega (arith, is.1, n.ends))
          ∙ ap (λ (x : ℕ). encode1 x ++ encode (finish n.t)) (sym is_changed)

      pub turn : (r : ℕ) (new : List ℕ) → Wrote text i (encode1 c) new r → Inv old turns new (i + l.width) (k + 1)
      turn r new u =
          let z : r ≡ i + l.width = omega (arith, u.end, same_size) in
          record {
            to =
                ahead.past v.to n new (i + l.width) (ap (λ (x : ℕ). i + x) is.1)
                (ap (λ (j : ℕ). drop j new) (sym z) ∙ u.rest ∙ ap (λ (j : ℕ). drop j text) z);
            bytes =
                ap (λ (j : ℕ). take j new ++ encode (finish n.t)) (sym z)
                ∙ ap (λ (x : List ℕ). x ++ encode (finish n.t)) u.bytes
                ∙ append_assoc (take i text) (encode1 c) (encode (finish n.t))
                ∙ ap (λ (x : List ℕ). take i text ++ x) (sym rest-bytes)
                ∙ v.bytes;
            enough = omega (arith, v.enough, ap length n.is);
            size = u.size ∙ v.size;
          }

  all_read : v.to.rest ≡ [] → (cs : Word) → Encodes old cs → Finished cs old text
  unfolding finish encode
  all_read z cs e =
      let q : length text ≤ i = omega (arith, v.to.ends, v.size, ap (λ (x : Word). length (encode x)) z) in
      record {
        bytes =
            sym (take_all i text q)
            ∙ sym (append-nil (take i text))
            ∙ ap (λ (x : Word). take i text ++ encode (finish x)) (sym z)
            ∙ v.bytes
            ∙ ap (λ (x : Word). encode (finish x)) (ahead.only v.to cs e);
        sized = v.size;
      }

  -- the loop ends at the text's end, or after the last turn
  pub at_end : length old ≤ i → (cs : Word) → Encodes old cs → Finished cs old text
  at_end h = all_read (ahead.none_left v.to h)

  pub after_turns : turns ≤ k → (cs : Word) → Encodes old cs → Finished cs old text
  after_turns h = all_read (empty v.to.rest (omega (arith, v.enough)))
