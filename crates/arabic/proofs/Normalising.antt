-- The letter loop of item 2, on plain values. Assumes nothing.
use mathlib.Core.Path.{◌≡◌, refl, sym, ap, ◌∙◌, subst}
use mathlib.Core.Bool.{Bool, true, false}
use mathlib.Core.List.{List, [], ◌∷◌, ◌++◌, append_assoc, append-nil}
use Prim.Native.Nat.{ℕ, ◌+◌, ◌-◌, ◌*◌, ◌≤◌, ◌<◌}
use native.Mathlib.Omega.{arith}
use lib.ListN.{length, take, drop, get_or, set, length-set}
use lib.Seq.{take-append_seam, take-set-le, get_or-set_same, get_or-drop, drop-drop}
use Rattle.std.specs.Prelude.{Option, IfSome}
use Rattle.utf8.specs.Utf8.{encode1, encode}
use Rattle.utf8.proofs.Text.{encode_one, encode-append}
use Rattle.definition.specs.Words.{Word}
use Rattle.definition.specs.Normal.{normal, normalise}
use Rattle.definition.specs.Facts.{plain_letter}
use Rattle.definition.proofs.Passed.{plain-normal}
use Rattle.utf8.specs.Letters.{LetterAt, Read, Wrote}
use Rattle.utf8.specs.Spelt.{Encodes}
use Rattle.utf8.specs.declared.letters.Letter.{Letter}
use Rattle.arabic.specs.Rows.{class_of, listed, given_bytes}
use Rattle.arabic.specs.Texts.{Normalised}
use Rattle.snowball.specs.Stands.{work_size, longest_word}
use Rattle.utf8.specs.Places.{size}
use Rattle.utf8.specs.Beside.{at_letters}
use Rattle.utf8.proofs.Places.{size-append}
use Rattle.places.specs.Places.{Typed, letters_of, places_of, each_at}
use Rattle.arabic.proofs.Marking.{normal_beside, beside_is, all_at_one, Marked, marked_more}
use Rattle.plain_letters.specs.Telling.{Tells}
use Rattle.arabic.proofs.Table.{grows, class_small, normal-class}
use Rattle.arabic.proofs.Gives.{given_is}
use Rattle.arabic.proofs.Halving.{listed_small}
use Rattle.arabic.proofs.Passing.{told, two_bytes, two-inside}
use Rattle.utf8.proofs.Ahead as ahead
use Rattle.utf8.proofs.Ahead.{Ahead, Next}

-- The loop's invariant: the first `at` bytes of out are those of the letters before i, normalised, and beside stand their places.
pub record Inv (text places : List ℕ) (i : ℕ) (out beside : List ℕ) (at : ℕ) : Type 0 where
  pub to : Ahead text text i
  -- the letters so far
  pub done : Word
  pub bytes : take at out ≡ encode done
  pub sized : at ≡ size done
  pub split : done ++ normalise to.rest ≡ normalise to.word
  pub placed : at_letters done beside ++ normal_beside to.rest (drop i places) ≡ normal_beside to.word places
  pub bound : 3 * at ≤ 4 * i
  pub size_out : length out ≡ work_size
  pub size_beside : length beside ≡ work_size

pub start : (text places out beside cs : List ℕ) → length out ≡ work_size → length beside ≡ work_size → Encodes text cs → Inv text places 0 out beside 0
unfolding encode at_letters
start text places out beside cs z y e =
    record { to = ahead.start text cs e; done = []; bytes = refl; sized = refl; split = refl; placed = refl; bound = omega arith; size_out = z; size_beside = y }

module _ {text places : List ℕ} {i : ℕ} {out beside : List ℕ} {at : ℕ} (v : Inv text places i out beside at) where
  -- one turn: the letter at i
  module _ (h : i < length text) where
    abbrev pub next : Next text i (length text) v.to.rest
    next = ahead.next v.to h

    -- the place of the letter
    abbrev place : ℕ
    place = get_or places i 0

    -- what stands for it is written, with its place beside it, and its bytes are passed
    written : (width : ℕ) (bs : List ℕ) → width ≡ length (encode1 next.c) → bs ≡ encode (normal next.c)
        → (r : ℕ) (new : List ℕ) → Wrote out at bs new r → (marks : List ℕ) → length marks ≡ length beside → Marked beside at (normal next.c) (get_or places i 0) marks
        → Inv text places (i + width) new marks r
    unfolding normalise normal_beside
    written width bs e f r new u marks l m =
        record {
          to = ahead.past v.to next text (i + width) (ap (λ (x : ℕ). i + x) e) refl;
          done = v.done ++ normal next.c;
          bytes = u.bytes ∙ (λ j. v.bytes j ++ f j) ∙ sym (encode-append v.done (normal next.c));
          sized = omega (arith, u.end, v.sized, ap length f, size-append v.done (normal next.c));
          split =
              append_assoc v.done (normal next.c) (normalise next.t)
              ∙ ap (λ (x : Word). v.done ++ normalise x) (sym next.is)
              ∙ v.split;
          placed =
              ap (λ (x : List ℕ). x ++ normal_beside next.t (drop (i + width) places))
              (marked_more beside marks v.done (normal next.c) place (subst (λ (n : ℕ). Marked beside n (normal next.c) place marks) v.sized m))
              ∙ append_assoc (at_letters v.done beside) (each_at place (normal next.c)) (normal_beside next.t (drop (i + width) places))
              ∙ ap (λ (x : List ℕ). at_letters v.done beside ++ x) rest-placed
              ∙ v.placed;
          bound = omega (arith, e, u.end, v.bound, ap length f, grows next.c);
          size_out = u.size ∙ v.size_out;
          size_beside = l ∙ v.size_beside;
        }
      where
        rest-placed : each_at (get_or places i 0) (normal next.c) ++ normal_beside next.t (drop (i + width) places) ≡ normal_beside v.to.rest (drop i places)
        rest-placed =
            let z : i + 0 ≡ i = omega arith in
            (λ j. each_at (sym (get_or-drop i places 0 0 ∙ ap (λ (k : ℕ). get_or places k 0) z) j) (normal next.c)
            ++ normal_beside next.t ((ap (λ (k : ℕ). drop (i + k) places) e ∙ sym (drop-drop (length (encode1 next.c)) i places)) j))
            ∙ ap (λ (x : Word). normal_beside x (drop i places)) (sym next.is)

    -- b tells whether it is plain
    module _ (b : Bool) (f : Tells text i b) where
      pub plain-room : b ≡ true → length text ≤ longest_word → at + 2 ≤ work_size
      plain-room e m = omega (arith, two-inside next b f e, v.bound)

      pub plain_turn : b ≡ true → (r : ℕ) (new : List ℕ) → ((c : ℕ) (t : List ℕ) → LetterAt text i c t → Wrote out at (encode1 c) new r)
          → (marks : List ℕ) → marks ≡ set beside at (get_or places i 0) → at < length beside → Inv text places (i + 2) new marks r
      unfolding at_letters each_at
      plain_turn e r new u marks k l =
          let own : normal next.c ≡ next.c ∷ [] = plain-normal next.c (sym (told next b f) ∙ e) in
          let z : at + 0 ≡ at = omega arith in
          written 2 (encode1 next.c) (sym (two_bytes next b f e))
          (sym (ap encode own ∙ encode_one next.c))
          r new (u next.c (encode next.t) next.at) marks (ap length k ∙ length-set beside at place)
          (record {
            kept = ap (take at) k ∙ take-set-le at beside at place (omega arith);
            given =
                subst (λ (w : Word). at_letters w (drop at marks) ≡ each_at place w) (sym own)
                (ap (λ (p : ℕ). p ∷ [])
                (get_or-drop at marks 0 0 ∙ (λ j. get_or (k j) (z j) 0) ∙ get_or-set_same beside at place 0 l));
          })

    -- the letter l is read
    module _ (l : Letter) (f : Read text i l) where
      is : (l.code ≡ next.c) × (l.width ≡ length (encode1 next.c))
      is = ahead.read_is v.to h l f

      pub not_plain : (b : Bool) → Tells text i b → b ≡ false → plain_letter l.code ≡ false
      not_plain b g e = ap plain_letter is.0 ∙ sym (told next b g) ∙ e

      -- own is its bytes, and k its class
      module _ (own : List ℕ) (p : own ≡ take (i + l.width - i) (drop i text)) (k : Option ℕ) (q : k ≡ listed (class_of l.code)) where
        own_bytes : own ≡ encode1 next.c
        own_bytes =
            let z : i + l.width - i ≡ length (encode1 next.c) = omega (arith, is.1) in
            p ∙ (λ j. take (z j) (next.at.1 j)) ∙ take-append_seam (encode1 next.c) (encode next.t)

        put_bytes : given_bytes k own ≡ encode (normal next.c)
        put_bytes =
            (λ j. given_bytes ((q ∙ ap (λ (c : ℕ). listed (class_of c)) is.0) j) (own_bytes j))
            ∙ given_is next.c (class_of next.c) (class_small next.c) ∙ ap encode (sym (normal-class next.c))

        pub small : IfSome k (λ c. c < 56)
        small = listed_small (class_of l.code) (class_small l.code) k q

        module _ (bs : List ℕ) (e : bs ≡ given_bytes k own) where
          pub room : length text ≤ longest_word → at + length bs ≤ work_size
          room m = omega (arith, ap length (e ∙ put_bytes), grows next.c, v.bound, next.ends)

          -- beside what is written stands the place alone
          pub turn : (r : ℕ) (new : List ℕ) → Wrote out at bs new r → (marks : List ℕ) → length marks ≡ length beside → take at marks ≡ take at beside
              → ((k : ℕ) → k < length bs → get_or marks (at + k) 0 ≡ get_or places i 0) → Inv text places (i + l.width) new marks r
          turn r new u marks y kept filled =
              written l.width bs is.1 (e ∙ put_bytes) r new u marks y
              (record {
                kept = kept;
                given = all_at_one (normal next.c) place (drop at marks) (λ k g. get_or-drop at marks k 0 ∙ filled k (omega (arith, ap length (e ∙ put_bytes))));
              })

  pub done_all : length text ≤ i → (ts : List Typed) → Encodes text (letters_of ts) → at_letters (letters_of ts) places ≡ places_of ts
      → length text ≤ longest_word → Normalised ts out beside at
  unfolding normalise normal_beside
  done_all l ts e p h =
      let none : v.to.rest ≡ [] = ahead.none_left v.to l in
      let word : v.to.word ≡ letters_of ts = ahead.only v.to (letters_of ts) e in
      let all : v.done ≡ normalise (letters_of ts) =
      sym (append-nil v.done) ∙ ap (λ (x : Word). v.done ++ normalise x) (sym none) ∙ v.split ∙ ap normalise word in
      record {
        bytes = v.bytes ∙ ap encode all;
        sized = v.sized ∙ ap size all;
        within = omega (arith, v.bound, v.to.ends);
        placed =
            ap (λ (w : Word). at_letters w beside) (sym all)
            ∙ sym (append-nil (at_letters v.done beside))
            ∙ ap (λ (x : Word). at_letters v.done beside ++ normal_beside x (drop i places)) (sym none)
            ∙ v.placed
            ∙ ap (λ (w : Word). normal_beside w places) word
            ∙ beside_is ts places p;
      }
