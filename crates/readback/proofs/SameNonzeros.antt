-- Two texts that give the same nonzeros, whatever their forms, are read as the same list.
-- Assumes nothing.
use mathlib.Core.Bool.{Bool}
use mathlib.Core.List.{List}
use mathlib.Core.Path.{◌≡◌, refl, sym, ◌∙◌, ap}
use Prim.Native.Nat.{ℕ, zero, suc, ◌+◌, ◌*◌, ◌/◌, ◌%◌}
use Rattle.counting.specs.Tests.{pick}
use Rattle.counting.specs.Sums.{count}
use Rattle.counting.proofs.Joined.{both_ways}
use Rattle.counting.proofs.Counted.{count_eq}
use Rattle.model.specs.Limits.{line_limit}
use Rattle.model.specs.Pattern.{with_entry}
use Rattle.texts.specs.Reading.{read_as}
use Rattle.texts.specs.Header.{header_of}
use Rattle.texts.specs.Entries.{is_given}
use Rattle.texts.specs.Reading.{list_cell, listed, nonzeros_in, cells_of, read_call, read_list}
use Rattle.readback.specs.TextSays.{SameNonzeros}
use Rattle.readback.proofs.AnyText.{list-is, answered}
use Rattle.readback.proofs.TextSays.{cell_says, says_cell}

-- tables in which the same cells are given
module _ (one other : List ℕ) (same : (p : ℕ) → is_given one p ≡ is_given other p) where
  count_same : (top : ℕ) → count (is_given one) top ≡ count (is_given other) top
  count_same top = count_eq (is_given one) (is_given other) top (λ p l. same p)

  cell_same : (p t row column : ℕ) (list : List ℕ) → list_cell one p t row column list ≡ list_cell other p t row column list
  unfolding list_cell
  cell_same p t row column list = ap (λ b. pick b (with_entry t row column list) list) (same p)

  listed_same : (top : ℕ) (list : List ℕ) → listed one top list ≡ listed other top list
  unfolding listed
  listed_same zero list = refl
  listed_same (suc p) list =
      cell_same p (count (is_given one) p) (p / line_limit) (p % line_limit) (listed one p list)
      ∙ ap (λ t. list_cell other p t (p / line_limit) (p % line_limit) (listed one p list)) (count_same p)
      ∙ ap (list_cell other p (count (is_given other) p) (p / line_limit) (p % line_limit)) (listed_same p list)

module _
    (one other list parts : List ℕ) {m n nonzeros m' n' nonzeros' : ℕ} {integer integer' : Bool} (alike : SameNonzeros one other)
    (e : read_call one list parts ≡ read_as m n nonzeros integer)
    (f : read_call other list parts ≡ read_as m' n' nonzeros' integer') where
  given_same : (p : ℕ) → is_given (cells_of one) p ≡ is_given (cells_of other) p
  given_same p =
      both_ways
      (is_given (cells_of one) p)
      (is_given (cells_of other) p)
      (λ g. says_cell other list parts f p ((alike.gives (p / line_limit + 1) (p % line_limit + 1)).0 (cell_says one list parts e p g)))
      (λ g. says_cell one list parts e p ((alike.gives (p / line_limit + 1) (p % line_limit + 1)).1 (cell_says other list parts f p g)))

  pub sizes_same : (m ≡ m') × (n ≡ n') × (nonzeros ≡ nonzeros')
  unfolding nonzeros_in
  sizes_same =
      let a = answered one list parts e in
      let b = answered other list parts f in (
        sym a.m_is ∙ alike.rows ∙ b.m_is,
        sym a.n_is ∙ alike.columns ∙ b.n_is,
        sym a.nonzeros_are
            ∙ count_same (cells_of one) (cells_of other) given_same (line_limit * (header_of one).m)
            ∙ ap (λ k. count (is_given (cells_of other)) (line_limit * k)) alike.rows
            ∙ b.nonzeros_are,
      )

  pub list_same : read_list one list parts ≡ read_list other list parts
  list_same =
      sym (list-is one list parts (answered one list parts e).accepted)
      ∙ listed_same (cells_of one) (cells_of other) given_same (line_limit * (header_of one).m) list
      ∙ ap (λ k. listed (cells_of other) (line_limit * k) list) alike.rows
      ∙ list-is other list parts (answered other list parts f).accepted
