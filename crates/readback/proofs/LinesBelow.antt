-- The lines after the size line rise until the text's end, and past it none is an entry's.
-- Assumes nothing.
use mathlib.Core.Bool.{Bool, true, false, not}
use mathlib.Core.List.{List}
use mathlib.Core.Path.{◌≡◌, refl, sym, ap}
use mathlib.Core.Logic.{⊎_elim}
use Prim.Native.Nat.{ℕ, zero, suc, ◌≤◌, ◌<◌}
use native.Mathlib.Nat.{eq-or-lt_of_le, le_of_suc-le-suc}
use native.Mathlib.Omega.{arith}
use lib.Dec.{ltb}
use lib.ListN.{length}
use borrow.Author.Tests.{ltb-true, ltb-false, lt-ltb}
use Rattle.counting.specs.Sums.{count}
use Rattle.counting.proofs.Joined.{by_test, fails, and_left, and_intro, and_fails_right}
use Rattle.scanning.specs.declared.Stretch.TheVariants.{Line}
use Rattle.scanning.specs.Lines.{line_stop, line_next, empty_line}
use Rattle.scanning.proofs.Scans.{stretch_over, next_after, next-none}
use Rattle.readback.specs.TextSays.{line_below, is_entry}
use Rattle.counting.proofs.Passed.{count-flat}

module _ (text : List ℕ) where
  stop_over : (at : ℕ) → length text ≤ at → line_stop text at ≡ at
  unfolding line_stop
  stop_over at l = stretch_over Line text at (length text) l

  next_rise : (at : ℕ) → at ≤ line_next text at
  next_rise at =
      by_test
      (ltb at (length text))
      (λ z. omega (arith, next_after text at (ltb-true at (length text) z)))
      (λ z. let l = ltb-false at (length text) z in
      omega (arith, next-none text at at (sym (stop_over at l)) l))

  pub line_more : (k : ℕ) → line_below text (suc k) ≡ line_next text (line_below text k)
  unfolding line_below
  line_more k = refl

  lines_rise : (j k : ℕ) → j ≤ k → line_below text j ≤ line_below text k
  lines_rise j zero l =
      let e : j ≡ 0 = omega arith in
      omega (arith, ap (line_below text) e)
  lines_rise j (suc k) l =
      ⊎_elim
      (λ e. omega (arith, ap (line_below text) e))
      (λ b. omega (arith, lines_rise j k (le_of_suc-le-suc b), line_more k, next_rise (line_below text k)))
      (eq-or-lt_of_le l)

  -- each line has a byte
  lines_far : (k : ℕ) → line_below text k < length text → k ≤ line_below text k
  lines_far zero l = omega arith
  lines_far (suc k) l =
      let m = line_more k in
      let b : line_below text k < length text = omega (arith, next_rise (line_below text k)) in
      omega (arith, lines_far k b, next_after text (line_below text k) b)

  pub entry_there : (k : ℕ) → is_entry text k ≡ true → line_below text k < length text
  unfolding is_entry
  entry_there k e = ltb-true (line_below text k) (length text) (and_left _ _ e)

  -- a line that is there and not empty is an entry's, and an empty one is not
  pub entry_so : (k : ℕ) → line_below text k < length text → empty_line text (line_below text k) ≡ false → is_entry text k ≡ true
  unfolding is_entry
  entry_so k l e = and_intro (lt-ltb (line_below text k) (length text) l) (ap not e)

  pub entry_not : (k : ℕ) → empty_line text (line_below text k) ≡ true → is_entry text k ≡ false
  unfolding is_entry
  entry_not k e = and_fails_right (ltb (line_below text k) (length text)) (ap not e)

  -- a text has fewer lines than bytes
  pub entry_among : (k : ℕ) → is_entry text k ≡ true → k < length text
  entry_among k e =
      let l = entry_there k e in
      omega (arith, lines_far k l)

  -- the lines before a line that is not there have all the entries
  module _ (top : ℕ) (over : length text ≤ line_below text top) where
    pub entry_before : (k : ℕ) → is_entry text k ≡ true → k < top
    entry_before k e =
        by_test
        (ltb k top)
        (λ z. ltb-true k top z)
        (λ z. omega (arith, entry_there k e, lines_rise top k (ltb-false k top z)))

    -- and all of any kind of entry
    pub entries_all : (test : ℕ → Bool) → ((k : ℕ) → test k ≡ true → is_entry text k ≡ true) → count test (length text) ≡ count test top
    entries_all test kind =
        by_test
        (ltb top (length text))
        (λ z. let l = ltb-true top (length text) z in
        count-flat test top (length text) (omega arith) (λ s a b. fails (test s) (λ e. omega (arith, entry_before s (kind s e)))))
        (λ z. sym
        (count-flat test (length text) top (ltb-false top (length text) z) (λ s a b. fails (test s) (λ e. omega (arith, entry_among s (kind s e))))))
