-- The row that the halving and the walk find is the definition's longest row; its class and its length. Assumes nothing.
use mathlib.Core.Path.{◌≡◌, refl, sym, ap, ◌∙◌, subst}
use mathlib.Core.Bool.{Bool, true}
use mathlib.Core.Logic.{◌⊎◌, inl, inr}
use mathlib.Core.List.{List, [], ◌∷◌, reverse}
use Prim.Native.Nat.{ℕ, zero, suc, ◌+◌, ◌-◌, ◌≤◌, ◌<◌}
use native.Mathlib.Omega.{arith}
use lib.Dec.{T, eqb, leb}
use Rattle.std.proofs.Common.{Option}
use lib.ListN.{length, take, get_or}
use borrow.Author.Tests.{eqb-true, eqb-false, eq-eqb, ne_eqb, leb-true}
use Rattle.definition.specs.Words.{Word, both, same, begins_with, ends_with}
use Rattle.definition.specs.Tables.{Table}
use Rattle.definition.specs.Search.{row_at, longest}
use Rattle.definition.specs.Facts.{LongestMatch}
use Rattle.definition.proofs.Match.{by, both_0, both_1}
use Rattle.definition.proofs.Found.{longest_match}
use Rattle.definition.proofs.Unique.{longest_at, longest_none}
use Rattle.utf8.specs.Utf8.{Scalars, encode}
use Rattle.utf8.specs.Places.{size}
use Rattle.utf8.specs.Spelt.{Encodes}
use Rattle.snowball.specs.Rows.{keys_by, begins, matches, well_formed, rows_of, byte_table, low, plain, AllScalars}
use Rattle.snowball.specs.Search.{Finds, Ahead, Behind, AheadBytes, BehindBytes, LongestRow, Halved, Walked}
use Rattle.snowball.specs.declared.among.Found.{Found as Answer}
use Rattle.snowball.specs.declared.among.Match.{Match}
use Rattle.snowball.proofs.Order.{Begins, lcp_right, begins_true, true_begins}
use Rattle.snowball.proofs.Table as table
use Rattle.snowball.proofs.Read.{keys_by_length, keys_by_at}
use Rattle.snowball.proofs.Longest.{Longest, Nothing, found}
use Rattle.snowball.proofs.Bytes.{byte_row_lem, byte_class, ahead_bytes, behind-bytes, ends-reverse}

-- ---- the test of the tables' keys is the definition's test
eqb_sym : (x y : ℕ) → eqb x y ≡ eqb y x
eqb_sym x y = by (eqb x y) (λ e. e ∙ sym (eq-eqb y x (sym (eqb-true x y e)))) (λ e. e ∙ sym (ne_eqb y x (λ h. eqb-false x y e (sym h))))

begins-same : (u w : Word) → begins u w ≡ begins_with w u
unfolding begins_with same
begins-same [] w = refl
begins-same (x ∷ u) [] = refl
begins-same (x ∷ u) (y ∷ w) = (λ i. both (eqb_sym x y i) (begins-same u w i))

pub matches-ahead : (s : List ℕ) → matches (λ u. u) s ≡ begins_with s
matches-ahead s i key = begins-same key s i

pub matches-behind : (s : List ℕ) → matches reverse s ≡ ends_with s
matches-behind s i key = (begins-same (reverse key) (reverse s) ∙ ends-reverse s key) i

-- ---- the code's rows as a table
rows_length : (ws : List (List ℕ)) (cs ns : List ℕ) → length cs ≡ length ws → length (rows_of ws ns cs) ≡ length ws
rows_length [] cs ns e = refl
rows_length (w ∷ ws) [] ns e = absurd (let z : 0 ≡ suc (length ws) = e in omega arith)
rows_length (w ∷ ws) (c ∷ cs) [] e = ap suc (rows_length ws cs [] (let z : suc (length cs) ≡ suc (length ws) = e in omega arith))
rows_length (w ∷ ws) (c ∷ cs) (n ∷ ns) e = ap suc (rows_length ws cs ns (let z : suc (length cs) ≡ suc (length ws) = e in omega arith))

row-letters : (ws : List (List ℕ)) (cs ns : List ℕ) (k : ℕ) → length cs ≡ length ws → k < length ws → (row_at (rows_of ws ns cs) k).letters ≡ take (get_or ns k 0) (get_or ws k [])
row-letters [] cs ns k e h = absurd (omega arith)
row-letters (w ∷ ws) [] ns k e h = absurd (let z : 0 ≡ suc (length ws) = e in omega arith)
row-letters (w ∷ ws) (c ∷ cs) [] zero e h = refl
row-letters (w ∷ ws) (c ∷ cs) [] (suc k) e h = row-letters ws cs [] k (let z : suc (length cs) ≡ suc (length ws) = e in omega arith) (omega arith)
row-letters (w ∷ ws) (c ∷ cs) (n ∷ ns) zero e h = refl
row-letters (w ∷ ws) (c ∷ cs) (n ∷ ns) (suc k) e h = row-letters ws cs ns k (let z : suc (length cs) ≡ suc (length ws) = e in omega arith) (omega arith)

row-class : (ws : List (List ℕ)) (cs ns : List ℕ) (k : ℕ) → length cs ≡ length ws → k < length ws → (row_at (rows_of ws ns cs) k).class ≡ get_or cs k 0
row-class [] cs ns k e h = absurd (omega arith)
row-class (w ∷ ws) [] ns k e h = absurd (let z : 0 ≡ suc (length ws) = e in omega arith)
row-class (w ∷ ws) (c ∷ cs) [] zero e h = refl
row-class (w ∷ ws) (c ∷ cs) [] (suc k) e h = row-class ws cs [] k (let z : suc (length cs) ≡ suc (length ws) = e in omega arith) (omega arith)
row-class (w ∷ ws) (c ∷ cs) (n ∷ ns) zero e h = refl
row-class (w ∷ ws) (c ∷ cs) (n ∷ ns) (suc k) e h = row-class ws cs ns k (let z : suc (length cs) ≡ suc (length ws) = e in omega arith) (omega arith)

-- ---- letters below D800 are scalar values
pub low-scalars : (w : Word) → low w ≡ true → Scalars w
low-scalars [] e = tt
low-scalars (c ∷ w) e = (inl (let h = leb-true c 0xD7FF (both_0 (leb c 0xD7FF) (low w) e) in omega arith), low-scalars w (both_1 (leb c 0xD7FF) (low w) e))

plain-scalars : (t : Table) → plain t ≡ true → AllScalars t
plain-scalars [] e = tt
plain-scalars (k ∷ t) e = (low-scalars k.letters (both_0 (low k.letters) (plain t) e), plain-scalars t (both_1 (low k.letters) (plain t) e))

-- ---- the bytes of a row, where the rows are the table t
low_at : (t : Table) → plain t ≡ true → (k : ℕ) → k < length t → low (row_at t k).letters ≡ true
low_at [] p k h = absurd (omega arith)
low_at (r ∷ t) p zero h = both_0 (low r.letters) (plain t) p
low_at (r ∷ t) p (suc k) h = low_at t (both_1 (low r.letters) (plain t) p) k (omega arith)

byte_rows : (t : Table) → length (byte_table t) ≡ length t
byte_rows [] = refl
byte_rows (r ∷ t) = ap suc (byte_rows t)

pub row_spelt : (ws : List (List ℕ)) (cs ns : List ℕ) (k : ℕ) → length cs ≡ length ws → k < length ws → (t : Table) → rows_of ws ns cs ≡ byte_table t → plain t ≡ true
    → (bytes : List ℕ) → bytes ≡ take (get_or ns k 0) (get_or ws k []) → Encodes bytes (row_at t k).letters
row_spelt ws cs ns k e h t q p bytes b =
    let l : k < length t = omega (arith, rows_length ws cs ns e, ap length q, byte_rows t) in
    (low-scalars (row_at t k).letters (low_at t p k l), b ∙ sym (row-letters ws cs ns k e h) ∙ ap (λ (x : Table). (row_at x k).letters) q ∙ byte_row_lem t k)

-- ---- a search that reads in one order, over a table that passes the test
module _ (read : List ℕ → List ℕ) (all : (s : List ℕ) → length (read s) ≡ length s) (ws : List (List ℕ)) (ns : List ℕ) (js : List (Option ℕ)) (g : T (well_formed (keys_by read ws ns) ns js))
    (cs : List ℕ) (e : length cs ≡ length ws) where
  well : table.Table (keys_by read ws ns) ns js
  well = table.in_table (keys_by read ws ns) ns js g

  count : length (keys_by read ws ns) ≡ length ws
  count = keys_by_length read ws ns

  pub row_count : length (rows_of ws ns cs) ≡ length ws
  row_count = rows_length ws cs ns e

  -- row k by its letters, and the key that is read of it
  module _ (k : ℕ) (h : k < length ws) where
    key : get_or (keys_by read ws ns) k [] ≡ read (row_at (rows_of ws ns cs) k).letters
    key = keys_by_at read ws ns k h ∙ ap read (sym (row-letters ws cs ns k e h))

    pub row_size : length (row_at (rows_of ws ns cs) k).letters ≡ get_or ns k 0
    row_size = sym (all (row_at (rows_of ws ns cs) k).letters) ∙ ap length (sym key) ∙ well.rows.size k (omega (arith, count))

    pub row_class_is : (row_at (rows_of ws ns cs) k).class ≡ get_or cs k 0
    row_class_is = row-class ws cs ns k e h

    stands : (s : List ℕ) → matches read s (row_at (rows_of ws ns cs) k).letters ≡ true → Begins (get_or (keys_by read ws ns) k []) (read s)
    stands s m = subst (λ (u : List ℕ). Begins u (read s)) (sym key) (begins_true (read (row_at (rows_of ws ns cs) k).letters) (read s) m)

    here : (s : List ℕ) → Begins (get_or (keys_by read ws ns) k []) (read s) → matches read s (row_at (rows_of ws ns cs) k).letters ≡ true
    here s b = true_begins (read (row_at (rows_of ws ns cs) k).letters) (read s) (subst (λ (u : List ℕ). Begins u (read s)) key b)

    -- a row that matches is no longer than what is searched
    pub row_inside : (s : List ℕ) → matches read s (row_at (rows_of ws ns cs) k).letters ≡ true → get_or ns k 0 ≤ length s
    row_inside s m =
        let b : Begins (get_or (keys_by read ws ns) k []) (read s) = stands s m in
        omega (arith, lcp_right (get_or (keys_by read ws ns) k []) (read s), all s, well.rows.size k (omega (arith, count)))

  -- the row that the halving and the walk find
  pub row_is : (s : List ℕ) (i q r : ℕ) → Halved (keys_by read ws ns) (read s) i q → Walked ns js q i r → r ≡ longest (matches read s) (rows_of ws ns cs)
  row_is s i q r H v = is_found (found well (read s) i q r H v)
    where
      is_longest : Longest (keys_by read ws ns) (read s) r → longest (matches read s) (rows_of ws ns cs) ≡ r
      is_longest L =
          let l : r < length ws = omega (arith, L.row, count) in
          longest_at (matches read s) (rows_of ws ns cs) r (omega (arith, row_count)) (here r l s L.here)
          (λ k h m.
          let n : k < length ws = omega arith in
          omega (arith, L.above k h (stands k n s m), row_size k n, row_size r l, well.rows.size k (omega (arith, count)), well.rows.size r L.row))
          (λ k h m.
          let n : k < length ws = omega (arith, row_count) in
          omega (arith, L.most k (omega (arith, count)) (stands k n s m), row_size k n, row_size r l, well.rows.size k (omega (arith, count)), well.rows.size r L.row))

      is_found : Longest (keys_by read ws ns) (read s) r ⊎ ((r ≡ length ns) × Nothing (keys_by read ws ns) (read s)) → r ≡ longest (matches read s) (rows_of ws ns cs)
      is_found (inl L) = sym (is_longest L)
      is_found (inr n) =
          let no : longest (matches read s) (rows_of ws ns cs) ≡ length (rows_of ws ns cs) =
          longest_none (matches read s) (rows_of ws ns cs) (λ k h m. n.1 k (omega (arith, count, row_count)) (stands k (omega (arith, row_count)) s m)) in
          omega (arith, n.0, well.rows.ns_length, count, row_count)

-- ---- a row that is the search's answer is the longest match
finds : {match : Word → Bool} {t : Table} {r : Answer} → r.row ≡ longest match t → r.class ≡ (row_at t (longest match t)).class → Finds match t r
finds {match} {t} e c = record { row = e; best = subst (LongestMatch match t) (sym e) (longest_match match t); class = c }

-- ---- the same row by letters, where the test on bytes answers what that on letters does
module _ (on-bytes on-letters : Word → Bool) {b : Table} {r : Match} (x : LongestRow on-bytes b r) (t : Table) (q : b ≡ byte_table t)
    (same : longest on-bytes (byte_table t) ≡ longest on-letters t) where
  same_row : longest on-bytes b ≡ longest on-letters t
  same_row = ap (longest on-bytes) q ∙ same

  letters_row : r.row ≡ longest on-letters t
  letters_row = x.row ∙ same_row

  letters_class : r.class ≡ (row_at t (longest on-letters t)).class
  letters_class = x.class ∙ (λ i. (row_at (q i) (same_row i)).class) ∙ byte_class t (longest on-letters t)

  letters_size : r.len ≡ size (row_at t (longest on-letters t)).letters
  letters_size = x.len ∙ (λ i. length (row_at (q i) (same_row i)).letters) ∙ ap length (byte_row_lem t (longest on-letters t))

-- ---- what the forward search and the backward one answer, with the cursor at the place at
module _ (s : List ℕ) (b : Table) (at : ℕ) (r : Match) where
  abbrev passed : Answer
  passed = record { row = r.row; class = r.class; cursor = at + r.len }

  abbrev left : Answer
  left = record { row = r.row; class = r.class; cursor = at - r.len }

  module _ (x : LongestRow (matches (λ u. u) s) b r) where
    ahead : LongestRow (begins_with s) b r
    ahead = subst (λ (m : Word → Bool). LongestRow m b r) (matches-ahead s) x

    pub ahead_bytes_is : AheadBytes b s at passed
    ahead_bytes_is = record { finds = finds ahead.row ahead.class; cursor = ap (λ (n : ℕ). at + n) ahead.len }

    pub ahead_is : (t : Table) → b ≡ byte_table t → plain t ≡ true → (w : Word) → Scalars w → s ≡ encode w → Ahead t w at passed
    ahead_is t q p w sc e =
        let same : longest (begins_with s) (byte_table t) ≡ longest (begins_with w) t =
        ap (λ (v : Word). longest (begins_with v) (byte_table t)) e ∙ ahead_bytes w t sc (plain-scalars t p) in
        record {
          finds = finds (letters_row (begins_with s) (begins_with w) ahead t q same) (letters_class (begins_with s) (begins_with w) ahead t q same);
          cursor = ap (λ (n : ℕ). at + n) (letters_size (begins_with s) (begins_with w) ahead t q same);
        }

  module _ (x : LongestRow (matches reverse s) b r) where
    behind : LongestRow (ends_with s) b r
    behind = subst (λ (m : Word → Bool). LongestRow m b r) (matches-behind s) x

    pub behind_bytes_is : BehindBytes b s at left
    behind_bytes_is = record { finds = finds behind.row behind.class; cursor = ap (λ (n : ℕ). at - n) behind.len }

    pub behind_is : (t : Table) → b ≡ byte_table t → plain t ≡ true → (w : Word) → Scalars w → s ≡ encode w → Behind t w at left
    behind_is t q p w sc e =
        let same : longest (ends_with s) (byte_table t) ≡ longest (ends_with w) t =
        ap (λ (v : Word). longest (ends_with v) (byte_table t)) e ∙ behind-bytes w t sc (plain-scalars t p) in
        record {
          finds = finds (letters_row (ends_with s) (ends_with w) behind t q same) (letters_class (ends_with s) (ends_with w) behind t q same);
          cursor = ap (λ (n : ℕ). at - n) (letters_size (ends_with s) (ends_with w) behind t q same);
        }
