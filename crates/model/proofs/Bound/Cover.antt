-- A set of lines that holds a line of each conflict has at least L4 lines.
-- Assumes nothing.
use mathlib.Core.Bool.{Bool, true, false, not}
use mathlib.Core.Path.{◌≡◌, ap}
use mathlib.Core.Logic.{⊎_elim}
use Prim.Native.Nat.{ℕ, zero, suc, ◌+◌, ◌≤◌, ◌<◌}
use native.Mathlib.Omega.{arith}
use borrow.Author.Tests.{not-true}
use Rattle.counting.specs.Tests.{◌and◌, ◌or◌}
use Rattle.counting.specs.Sums.{count}
use Rattle.counting.proofs.Joined.{and_intro, and_left, and_right, and_fails_right, or_right, or_cases, or_fails_left}
use Rattle.counting.proofs.Counted.{count_mono, count_less}
use Rattle.model.specs.Pattern.{Pattern, Inside, lines, row_line, column_line, on}
use Rattle.model.specs.Marking.{Marking}
use Rattle.model.specs.Bound.{conflict, most_chosen, L4}
use Rattle.model.proofs.Split.Lines.{on_row, on_column, row_line_in, column_line_in}
use Rattle.model.proofs.Bound.Chosen.{choosable-conflict, choosable-row, choosable_column, used_with, most_at_most}

-- a line of the set that becomes used leaves one less
cover_step :
    (P : Pattern) (C used : ℕ → Bool) (t l : ℕ) →
    l < lines P → C l ≡ true → used l ≡ false → on P l t ≡ true →
    count (λ k. C k and not (used k or on P k t)) (lines P) + 1 ≤ count (λ k. C k and not (used k)) (lines P)
cover_step P C used t l b c u o =
    count_less
    (λ k. C k and not (used k or on P k t))
    (λ k. C k and not (used k))
    (lines P)
    l
    (λ k d e. and_intro
    (and_left (C k) (not (used k or on P k t)) e)
    (ap
    not
    (or_fails_left
    (used k)
    (on P k t)
    (not-true (used k or on P k t) (and_right (C k) (not (used k or on P k t)) e)))))
    b
    (and_fails_right (C l) (ap not (or_right (used l) o)))
    (and_intro c (ap not u))

-- the lines of the set that are not used are at least as many as the conflicts that can be chosen
cover_most :
    (P : Pattern) (μ : Marking) (C used : ℕ → Bool) (t : ℕ) →
    Inside P →
    ((s : ℕ) → s < P.size → conflict P μ s ≡ true → C (row_line P s) or C (column_line P s) ≡ true) →
    t ≤ P.size → most_chosen P μ used t ≤ count (λ l. C l and not (used l)) (lines P)
unfolding most_chosen
cover_most P μ C used zero inside covers size = omega arith
cover_most P μ C used (suc t) inside covers size =
    most_at_most
    P
    μ
    used
    t
    (count (λ l. C l and not (used l)) (lines P))
    (cover_most P μ C used t inside covers (omega arith))
    (λ e. let before = cover_most P μ C (used_with P used t) t inside covers (omega arith) in
    ⊎_elim
    (λ c. omega (
      arith,
      cover_step P C used t (row_line P t) (row_line_in P t inside size) c (choosable-row P μ used t e) (on_row P t),
    ))
    (λ c. omega (
      arith,
      cover_step P C used t (column_line P t) (column_line_in P t inside size) c (choosable_column P μ used t e) (on_column P t),
    ))
    (or_cases (C (row_line P t)) (C (column_line P t)) (covers t size (choosable-conflict P μ used t e))))

-- a set of lines that holds a line of each conflict has at least L4 lines
pub cover_bounds :
    (P : Pattern) (μ : Marking) (C : ℕ → Bool) →
    Inside P →
    ((t : ℕ) → t < P.size → conflict P μ t ≡ true → C (row_line P t) or C (column_line P t) ≡ true) →
    L4 P μ ≤ count C (lines P)
unfolding L4
cover_bounds P μ C inside covers =
    omega (
      arith,
      cover_most P μ C (λ l. false) P.size inside covers (omega arith),
      count_mono (λ l. C l and not false) C (lines P) (λ l b e. and_left (C l) true e),
    )
