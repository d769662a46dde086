-- The lines held for a part are those that have nonzeros in it, so those held for both parts are the cut lines.
-- Assumes nothing.
use mathlib.Core.Bool.{Bool, true, false}
use mathlib.Core.List.{List}
use mathlib.Core.Path.{◌≡◌, refl, sym, ◌∙◌, ap}
use Prim.Native.Nat.{ℕ, zero, suc, ◌+◌, ◌≤◌, ◌<◌}
use native.Mathlib.Numerals.{add-one}
use native.Mathlib.Omega.{arith}
use denote.Enum.Declared.{tag_of, declared}
use lib.Dec.{eqb}
use lib.ListN.{length, get_or, set, length-set, length-replicate, get_or-replicate}
use lib.Seq.{get_or-set_same, get_or-set_other}
use borrow.Author.Tests.{eqb-true, eqb-false, eq-eqb, ne_eqb}
use Rattle.counting.specs.Tests.{◌and◌, ◌or◌, pick}
use Rattle.counting.specs.Sums.{sum, count, any}
use Rattle.counting.proofs.Joined.{by_test, no_way, or_left, pick_true, pick-false, or_passed}
use Rattle.counting.proofs.Counted.{count_eq, any-more}
use Rattle.model.specs.Limits.{line_room}
use Rattle.model.specs.contracts.Part.{enum}
use Rattle.model.specs.declared.Part.{Part}
use Rattle.model.specs.declared.Part.TheVariants.{Zero, One}
use Rattle.model.specs.Pattern.{Pattern, row_in, column_in, pattern_of, lines, row_line, column_line, on}
use Rattle.model.specs.Split.{holds, is_cut, volume, load}
use Rattle.model.proofs.Split.Volume.{volume-is-cuts}
use Rattle.pattern.specs.Splits.{split_of, in_part, load_of, no_lines, held_with, held_lines, is_held, both_held}

-- the load of a split depends on the number of nonzeros alone
pub load_is :
    (P : Pattern) (parts : List ℕ) (nonzeros : ℕ) (p : Part) →
    P.size ≡ nonzeros → load P (split_of parts) p ≡ load_of parts nonzeros p
unfolding load load_of in_part
load_is P parts nonzeros p e = ap (count (in_part parts p)) e

-- a line after a line is held
set_held : (held : List ℕ) (i l : ℕ) → l < length held → is_held (set held i 1) l ≡ eqb l i or is_held held l
unfolding is_held
set_held held i l b =
    by_test
    (eqb l i)
    (λ e. let q = eqb-true l i e in
    let there : get_or (set held i 1) l 0 ≡ 1 = ap (λ k. get_or (set held k 1) l 0) (sym q) ∙ get_or-set_same held l 1 0 b in
    ap (λ x. eqb x 1) there ∙ sym (or_left (eqb (get_or held l 0) 1) e))
    (λ e. ap (λ x. eqb x 1) (get_or-set_other held i l 1 0 (eqb-false l i e)) ∙ sym (or_passed (eqb (get_or held l 0) 1) e))

-- the order of the tests: held before, or on the row or the column
order_true : (row column before test : Bool) → test ≡ true → column or (row or before) ≡ before or ((row or column) and test)
unfolding ◌or◌ ◌and◌
order_true true true true test h = refl
order_true true true false test h = sym h
order_true true false true test h = refl
order_true true false false test h = sym h
order_true false true true test h = refl
order_true false true false test h = sym h
order_true false false true test h = refl
order_true false false false test h = refl

order_false : (line before test : Bool) → test ≡ false → before ≡ before or (line and test)
unfolding ◌or◌ ◌and◌
order_false true true test h = refl
order_false true false test h = sym h
order_false false true test h = refl
order_false false false test h = refl

with_length :
    (m : ℕ) (list parts : List ℕ) (p : Part) (t : ℕ) (held : List ℕ) →
    length (held_with m list parts p t held) ≡ length held
unfolding held_with pick
with_length m list parts p t held = by_case (in_part parts p t)
  where
    by_case :
        (b : Bool) → length (pick b (set (set held (row_in list t) 1) (m + column_in list t) 1) held) ≡ length held
    by_case true = simp length-set
    by_case false = refl

pub held_length : (m : ℕ) (list parts : List ℕ) (p : Part) (t : ℕ) → length (held_lines m list parts p t) ≡ line_room
unfolding held_lines no_lines
held_length m list parts p zero = length-replicate {A = ℕ} line_room 0
held_length m list parts p (suc t) =
    with_length m list parts p t (held_lines m list parts p t) ∙ held_length m list parts p t

module _ (m n nonzeros : ℕ) (list parts : List ℕ) (p : Part) (l : ℕ) where
  -- one nonzero more
  with_more :
      (t : ℕ) (held : List ℕ) → l < length held →
      is_held (held_with m list parts p t held) l
      ≡ is_held held l or (on (pattern_of m n nonzeros list) l t and in_part parts p t)
  unfolding held_with on pattern_of row_line column_line
  with_more t held b =
      let row = row_in list t in
      let column = m + column_in list t in
      by_test
      (in_part parts p t)
      (λ e. ap (λ h. is_held h l) (pick_true (set (set held row 1) column 1) held e)
      ∙ set_held (set held row 1) column l (simp length-set b)
      ∙ ap (λ x. eqb l column or x) (set_held held row l b)
      ∙ order_true (eqb l row) (eqb l column) (is_held held l) (in_part parts p t) e)
      (λ e. ap (λ h. is_held h l) (pick-false (set (set held row 1) column 1) held e)
      ∙ order_false (eqb l row or eqb l column) (is_held held l) (in_part parts p t) e)

  -- a line is held if one of the nonzeros passed is on it and in the part
  held_any :
      (t : ℕ) → l < line_room →
      is_held (held_lines m list parts p t) l
      ≡ any (λ s. on (pattern_of m n nonzeros list) l s and in_part parts p s) t
  unfolding held_lines no_lines is_held any sum
  held_any zero b = ap (λ x. eqb x 1) (get_or-replicate line_room l 0 0 b)
  held_any (suc t) b =
      with_more t (held_lines m list parts p t) (omega (arith, held_length m list parts p t))
      ∙ ap (λ x. x or (on (pattern_of m n nonzeros list) l t and in_part parts p t)) (held_any t b)
      ∙ sym (any-more (λ s. on (pattern_of m n nonzeros list) l s and in_part parts p s) t)
      ∙ ap (any (λ s. on (pattern_of m n nonzeros list) l s and in_part parts p s)) (add-one t)

  -- the lines held are those that have a nonzero in the part
  pub held_holds :
      l < line_room →
      is_held (held_lines m list parts p nonzeros) l ≡ holds (pattern_of m n nonzeros list) (split_of parts) p l
  unfolding holds pattern_of in_part
  held_holds b = held_any nonzeros b

-- the number of lines held for both parts is the volume
pub cuts_are_volume :
    (m n nonzeros : ℕ) (list parts : List ℕ) → m + n ≤ line_room →
    count (both_held (held_lines m list parts Zero nonzeros) (held_lines m list parts One nonzeros)) (m + n)
    ≡ volume (pattern_of m n nonzeros list) (split_of parts)
unfolding both_held is_cut lines pattern_of
cuts_are_volume m n nonzeros list parts b =
    count_eq
    (both_held (held_lines m list parts Zero nonzeros) (held_lines m list parts One nonzeros))
    (is_cut (pattern_of m n nonzeros list) (split_of parts))
    (m + n)
    each
    ∙ sym (volume-is-cuts (pattern_of m n nonzeros list) (split_of parts))
  where
    each :
        (l : ℕ) → l < m + n →
        both_held (held_lines m list parts Zero nonzeros) (held_lines m list parts One nonzeros) l
        ≡ is_cut (pattern_of m n nonzeros list) (split_of parts) l
    each l c =
        ap (λ x. x and is_held (held_lines m list parts One nonzeros) l) (held_holds m n nonzeros list parts Zero l (omega arith))
        ∙ ap (λ x. holds (pattern_of m n nonzeros list) (split_of parts) Zero l and x) (held_holds m n nonzeros list parts One l (omega arith))

-- one nonzero more, as the loops count
pub held_more :
    (m : ℕ) (list parts : List ℕ) (p : Part) (t : ℕ) (held next : List ℕ) →
    held ≡ held_lines m list parts p t → next ≡ held_with m list parts p t held →
    next ≡ held_lines m list parts p (t + 1)
unfolding held_lines
held_more m list parts p t held next h e = rw add-one (e ∙ ap (held_with m list parts p t) h)

-- a part by its tag
pub zero_tag : (p : Part) → tag_of (declared enum) p ≡ 0 → p ≡ Zero
zero_tag Zero h = refl
zero_tag One h = no_way (omega arith)

pub one_tag : (p : Part) → tag_of (declared enum) p ≡ 1 → p ≡ One
one_tag Zero h = no_way (omega arith)
one_tag One h = refl

-- the part of a byte
pub split-zero :
    (parts : List ℕ) (t at byte : ℕ) → at ≡ t → byte ≡ get_or parts at 0 → byte ≡ 0 → split_of parts t ≡ Zero
unfolding split_of
split-zero parts t at byte e f z =
    pick_true Zero One (eq-eqb (get_or parts t 0) 0 (ap (λ k. get_or parts k 0) (sym e) ∙ sym f ∙ z))

pub split_one :
    (parts : List ℕ) (t at byte : ℕ) → at ≡ t → byte ≡ get_or parts at 0 → (byte ≡ 0 → ⊥) → split_of parts t ≡ One
unfolding split_of
split_one parts t at byte e f z =
    pick-false Zero One (ne_eqb (get_or parts t 0) 0 (λ q. z (f ∙ ap (λ k. get_or parts k 0) e ∙ q)))

-- a nonzero in the part is held, another is not
module _ (m : ℕ) (list parts : List ℕ) (p : Part) (t : ℕ) (held : List ℕ) where
  pub with_in :
      (row first column : ℕ) → in_part parts p t ≡ true →
      row ≡ row_in list t → first ≡ m → column ≡ column_in list t →
      held_with m list parts p t held ≡ set (set held row 1) (first + column) 1
  unfolding held_with
  with_in row first column h r f c =
      pick_true (set (set held (row_in list t) 1) (m + column_in list t) 1) held h ∙ rw (r, f, c)

  pub with_out : in_part parts p t ≡ false → held_with m list parts p t held ≡ held
  unfolding held_with
  with_out h = pick-false (set (set held (row_in list t) 1) (m + column_in list t) 1) held h

-- a line held in both lists, from the two tests
pub both_from :
    (zeros ones : List ℕ) (l : ℕ) (a b both : Bool) →
    a ≡ is_held zeros l → b ≡ is_held ones l → both ≡ (a and b) → both ≡ both_held zeros ones l
unfolding both_held
both_from zeros ones l a b both z o h = h ∙ rw (z, o)

-- the volume, from lists of lines that were found so
pub volume-from :
    (m n nonzeros : ℕ) (list parts zeros ones : List ℕ) →
    zeros ≡ held_lines m list parts Zero nonzeros → ones ≡ held_lines m list parts One nonzeros → m + n ≤ line_room →
    count (both_held zeros ones) (m + n) ≡ volume (pattern_of m n nonzeros list) (split_of parts)
volume-from m n nonzeros list parts zeros ones z o b =
    ap (λ held. count (both_held held ones) (m + n)) z
    ∙ ap (λ held. count (both_held (held_lines m list parts Zero nonzeros) held) (m + n)) o
    ∙ cuts_are_volume m n nonzeros list parts b
