-- The columns entered and the mates, as their arrays hold them.
-- Assumes nothing.
use mathlib.Core.Bool.{true, false}
use mathlib.Core.List.{List, [], ◌∷◌}
use mathlib.Core.Path.{◌≡◌, refl, sym, ◌∙◌, ap, fun_ext}
use mathlib.Core.Logic.{⊎_elim}
use Prim.Native.Nat.{ℕ, zero, suc, ◌+◌, ◌-◌, ◌%◌, ◌≤◌, ◌<◌}
use native.Mathlib.Nat.{eq-zero-or-pos, mod-eq_of_lt}
use native.Mathlib.Numerals.{add-one}
use native.Mathlib.Omega.{arith}
use lib.Dec.{eqb, ltb}
use lib.ListN.{length, get_or, set, get_or-replicate, length-replicate, get_or-eq_default}
use lib.Seq.{get_or-set_same, get_or-set_other}
use borrow.Author.Tests.{eqb-true, eqb-false, eq-eqb, ltb-true, ltb-false, lt-ltb}
use Rattle.counting.proofs.Joined.{no_way, by_test, or_left, or_passed, pick_true, pick-false, bit-true, bit-false, bit_le_one}
use Rattle.model.specs.Matching.{with_column, with_mate}
use Rattle.matching.specs.Augmenting.{entered_in, mate_of, mates_in, unseen, no_columns, side_room}

-- a column that holds 0 is not entered
pub not_entered : (seen : List ℕ) (j : ℕ) → get_or seen j 0 ≡ 0 → entered_in seen j ≡ false
unfolding entered_in
not_entered seen j e = ap (ltb 0) e

-- one that holds another number is
pub is-entered : (seen : List ℕ) (j : ℕ) → (get_or seen j 0 ≡ 0 → ⊥) → entered_in seen j ≡ true
unfolding entered_in
is-entered seen j e =
    ⊎_elim
    (λ z. absurd (e z))
    (λ z. lt-ltb 0 (get_or seen j 0) z)
    (eq-zero-or-pos (get_or seen j 0))

-- a column is entered
pub entered-set :
    (seen : List ℕ) (j : ℕ) → j < length seen → entered_in (set seen j 1) ≡ with_column (entered_in seen) j
unfolding entered_in with_column
entered-set seen j h =
    fun_ext (λ c. by_test
    (eqb c j)
    (λ e. ap (λ (x : ℕ). ltb 0 (get_or (set seen j 1) x 0)) (eqb-true c j e)
    ∙ ap (ltb 0) (get_or-set_same seen j 1 0 h)
    ∙ sym (or_left (ltb 0 (get_or seen c 0)) e))
    (λ e. ap (ltb 0) (get_or-set_other seen j c 1 0 (eqb-false c j e))
    ∙ sym (or_passed (ltb 0 (get_or seen c 0)) e)))

-- a row that the arrays have room for
pub mate_row : (i : ℕ) → i < side_room → mate_of (i + 1) ≡ suc i
unfolding mate_of
mate_row i h = ap mate_of (add-one i) ∙ ap suc (mod-eq_of_lt h)

-- a column gets a row
pub mates_set :
    (mate : List ℕ) (j i : ℕ) → j < length mate → i < side_room →
    mates_in (set mate j (i + 1)) ≡ with_mate (mates_in mate) j (suc i)
unfolding mates_in with_mate
mates_set mate j i h b =
    fun_ext (λ c. by_test
    (eqb c j)
    (λ e. ap (λ (x : ℕ). mate_of (get_or (set mate j (i + 1)) x 0)) (eqb-true c j e)
    ∙ ap mate_of (get_or-set_same mate j (i + 1) 0 h)
    ∙ mate_row i b
    ∙ sym (pick_true (suc i) (mate_of (get_or mate c 0)) e))
    (λ e. ap mate_of (get_or-set_other mate j c (i + 1) 0 (eqb-false c j e))
    ∙ sym (pick-false (suc i) (mate_of (get_or mate c 0)) e)))

-- an unmatched column
pub mate_free : (mate : List ℕ) (j : ℕ) → get_or mate j 0 ≡ 0 → mates_in mate j ≡ 0
unfolding mates_in mate_of
mate_free mate j e = ap mate_of e

-- a matched one
pub mate_held :
    (mate : List ℕ) (j : ℕ) → (get_or mate j 0 ≡ 0 → ⊥) → mates_in mate j ≡ suc ((get_or mate j 0 - 1) % side_room)
unfolding mates_in mate_of
mate_held mate j e = held (get_or mate j 0) e
  where
    held : (x : ℕ) → (x ≡ 0 → ⊥) → mate_of x ≡ suc ((x - 1) % side_room)
    held zero z = absurd (z refl)
    held (suc x) z =
        let q : x ≡ suc x - 1 = omega arith in
        ap (λ (y : ℕ). suc (y % side_room)) q

-- entering a column leaves one fewer
pub unseen-set : (seen : List ℕ) (j : ℕ) → j < length seen → get_or seen j 0 ≡ 0 → unseen (set seen j 1) + 1 ≡ unseen seen
unfolding unseen
unseen-set [] j h e = no_way (omega arith)
unseen-set (x ∷ xs) zero h e =
    omega (arith, bit-true (eqb x 0) (eq-eqb x 0 e), bit-false (eqb 1 0) refl)
unseen-set (x ∷ xs) (suc j) h e = omega (arith, unseen-set xs j (omega arith) e)

-- at first no column is entered
pub none_long : length no_columns ≡ side_room
unfolding no_columns
none_long = length-replicate {A = ℕ} side_room 0

none_get_d : (j : ℕ) → get_or no_columns j 0 ≡ 0
unfolding no_columns
none_get_d j =
    by_test
    (ltb j side_room)
    (λ e. get_or-replicate {A = ℕ} side_room j 0 0 (ltb-true j side_room e))
    (λ e. let h : length no_columns ≤ j = omega (arith, none_long, ltb-false j side_room e) in
    get_or-eq_default no_columns 0 h)

pub none-entered : entered_in no_columns ≡ (λ j. false)
unfolding entered_in
none-entered = fun_ext (λ j. ap (ltb 0) (none_get_d j))

-- and every column is unmatched
pub none-matched : mates_in no_columns ≡ (λ j. 0)
unfolding mates_in mate_of
none-matched = fun_ext (λ j. ap mate_of (none_get_d j))

-- no more columns can be entered than there are
pub unseen_most : (seen : List ℕ) → unseen seen ≤ length seen
unfolding unseen
unseen_most [] = omega arith
unseen_most (x ∷ xs) = omega (arith, unseen_most xs, bit_le_one (eqb x 0))

pub none-unseen : unseen no_columns ≤ side_room
none-unseen = omega (arith, unseen_most no_columns, none_long)
