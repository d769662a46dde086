-- Where the lines of the entries are in a written text.
-- Assumes nothing.
use mathlib.Core.List.{List, []}
use mathlib.Core.Path.{◌≡◌, refl, ap}
use mathlib.Core.Logic.{⊎_elim}
use Prim.Native.Nat.{ℕ, zero, suc, ◌+◌, ◌≤◌, ◌<◌}
use native.Mathlib.Nat.{eq-or-lt_of_le, le_of_suc-le-suc}
use native.Mathlib.Omega.{arith}
use lib.ListN.{length, length-append}
use Rattle.counting.proofs.Joined.{no_way}
use Rattle.writing.specs.Written.{entry_text, entries_text}
use Rattle.writing.proofs.Held.{Holds, holds-left, holds_right}

module _ (list parts : List ℕ) where
  pub entries_none : entries_text list parts 0 ≡ []
  unfolding entries_text
  entries_none = refl

  pub entries-length : (t : ℕ) → length (entries_text list parts (suc t)) ≡ length (entries_text list parts t) + length (entry_text list parts t)
  unfolding entries_text
  entries-length t = length-append (entries_text list parts t) (entry_text list parts t)

  -- more entries take no fewer bytes
  pub entries_rise : (t top : ℕ) → t ≤ top → length (entries_text list parts t) ≤ length (entries_text list parts top)
  entries_rise t zero b =
      let e : t ≡ 0 = omega arith in
      omega (arith, ap (λ k. length (entries_text list parts k)) e)
  entries_rise t (suc top) b =
      ⊎_elim
      (λ e. omega (arith, ap (λ k. length (entries_text list parts k)) e))
      (λ l. omega (arith, entries-length top, entries_rise t top (le_of_suc-le-suc l)))
      (eq-or-lt_of_le b)

  -- entry t stands after the entries before it
  pub held_entry :
      {text : List ℕ} {start : ℕ} (top t : ℕ) → Holds text start (entries_text list parts top) → t < top →
      Holds text (start + length (entries_text list parts t)) (entry_text list parts t)
  unfolding entries_text
  held_entry zero t h l = no_way (omega arith)
  held_entry {text} {start} (suc top) t h l =
      ⊎_elim
      (λ e. rw e (holds_right (entries_text list parts top) (entry_text list parts top) h))
      (λ k. held_entry top t (holds-left (entries_text list parts top) (entry_text list parts top) h) k)
      (eq-or-lt_of_le (le_of_suc-le-suc l))
