-- What the searches cite of their table: that its rows are in order, and the longest row with its class and its length. Assumes nothing.
use mathlib.Core.Path.{◌≡◌, sym, ap, ◌∙◌, subst}
use mathlib.Core.Bool.{true}
use mathlib.Core.Logic.{inl, inr}
use mathlib.Core.List.{List}
use Prim.Native.Nat.{ℕ, ◌≤◌, ◌<◌}
use native.Mathlib.Omega.{arith}
use lib.ListN.{length, get_or}
use Rattle.std.proofs.Common.{Some, None}
use Rattle.definition.specs.Search.{row_at, longest}
use Rattle.definition.proofs.Found.{Found, longest-found, row-behind, no_letters}
use Rattle.snowball.specs.Rows.{keys_by, matches, rows_of}
use Rattle.snowball.specs.Search.{LongestRow, Halved, Walked}
use Rattle.snowball.specs.declared.tables.Direction.{Ghosts}
use Rattle.snowball.specs.declared.tables.Among.{Among}
use Rattle.snowball.proofs.Table.{Table, Rows, in_table}
use Rattle.snowball.proofs.Read.{keys_by_length}
use Rattle.snowball.proofs.Answers as answers

module _ {X : Type 0} {d : Ghosts X} (t : Among X d) where
  well : Table (keys_by d.read t.rows.now t.lens.now) t.lens.now t.links.now
  well = in_table (keys_by d.read t.rows.now t.lens.now) t.lens.now t.links.now t.well_formed

  pub rows : Rows (keys_by d.read t.rows.now t.lens.now) t.lens.now
  rows = well.rows

  pub count : length (keys_by d.read t.rows.now t.lens.now) ≡ length t.rows.now
  count = keys_by_length d.read t.rows.now t.lens.now

  pub smaller : (k j : ℕ) → k < length t.rows.now → get_or t.links.now k None ≡ Some j → j < k
  smaller k j h e = well.smaller k j (omega (arith, count)) e

  pub most : (k : ℕ) → k < length t.rows.now → get_or t.lens.now k 0 ≤ 6
  most k h = rows.most k (omega (arith, count))

  module _ (all : (s : List ℕ) → length (d.read s) ≡ length s) (s : List ℕ) where
    -- the row that the halving and the walk find
    pub row_is : {i q r : ℕ} → Halved (keys_by d.read t.rows.now t.lens.now) (d.read s) i q → Walked t.lens.now t.links.now q i r
        → r ≡ longest (matches d.read s) (rows_of t.rows.now t.lens.now t.classes.now)
    row_is {i} {q} {r} H w = answers.row_is d.read all t.rows.now t.lens.now t.links.now t.well_formed t.classes.now (omega (arith, t.same_count)) s i q r H w

    module _ (r : ℕ) (is : r ≡ longest (matches d.read s) (rows_of t.rows.now t.lens.now t.classes.now)) where
      row_count : length (rows_of t.rows.now t.lens.now t.classes.now) ≡ length t.rows.now
      row_count = answers.row_count d.read all t.rows.now t.lens.now t.links.now t.well_formed t.classes.now (omega (arith, t.same_count))

      pub no_row : r ≡ length t.rows.now → LongestRow (matches d.read s) (rows_of t.rows.now t.lens.now t.classes.now) (record { row = r; class = 0; len = 0 })
      no_row n =
          let b : longest (matches d.read s) (rows_of t.rows.now t.lens.now t.classes.now) ≡ length (rows_of t.rows.now t.lens.now t.classes.now) = sym is ∙ n ∙ sym row_count in
          record {
            row = is;
            class = sym (ap (λ (i : ℕ). (row_at (rows_of t.rows.now t.lens.now t.classes.now) i).class) b ∙ row-behind (rows_of t.rows.now t.lens.now t.classes.now));
            len = sym (ap (λ (i : ℕ). length (row_at (rows_of t.rows.now t.lens.now t.classes.now) i).letters) b ∙ no_letters (rows_of t.rows.now t.lens.now t.classes.now));
          }

      module _ (ne : r ≡ length t.rows.now → ⊥) where
        row_found : (r < length t.rows.now) × (matches d.read s (row_at (rows_of t.rows.now t.lens.now t.classes.now) r).letters ≡ true)
        row_found = go (subst (Found (matches d.read s) (rows_of t.rows.now t.lens.now t.classes.now)) (sym is) (longest-found (matches d.read s) (rows_of t.rows.now t.lens.now t.classes.now)))
          where
            go : Found (matches d.read s) (rows_of t.rows.now t.lens.now t.classes.now) r → (r < length t.rows.now) × (matches d.read s (row_at (rows_of t.rows.now t.lens.now t.classes.now) r).letters ≡ true)
            go (inl f) = (omega (arith, f.0, row_count), f.1)
            go (inr f) = absurd (ne (f ∙ row_count))

        pub in_rows : r < length t.rows.now
        in_rows = row_found.0

        pub in_text : get_or t.lens.now r 0 ≤ length s
        in_text = answers.row_inside d.read all t.rows.now t.lens.now t.links.now t.well_formed t.classes.now (omega (arith, t.same_count)) r in_rows s row_found.1

        pub a_row : LongestRow (matches d.read s) (rows_of t.rows.now t.lens.now t.classes.now) (record { row = r; class = get_or t.classes.now r 0; len = get_or t.lens.now r 0 })
        a_row = record {
          row = is;
          class = sym (answers.row_class_is d.read all t.rows.now t.lens.now t.links.now t.well_formed t.classes.now (omega (arith, t.same_count)) r in_rows)
              ∙ ap (λ (i : ℕ). (row_at (rows_of t.rows.now t.lens.now t.classes.now) i).class) is;
          len = sym (answers.row_size d.read all t.rows.now t.lens.now t.links.now t.well_formed t.classes.now (omega (arith, t.same_count)) r in_rows)
              ∙ ap (λ (i : ℕ). length (row_at (rows_of t.rows.now t.lens.now t.classes.now) i).letters) is;
        }
