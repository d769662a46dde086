-- Whether a line can get a mark, from what is kept.
-- Assumes nothing.
use mathlib.Core.Bool.{Bool, true}
use mathlib.Core.List.{List}
use mathlib.Core.Path.{◌≡◌, sym, ◌∙◌, ap}
use Prim.Native.Nat.{ℕ, ◌+◌, ◌-◌, ◌*◌, ◌≤◌, ◌<◌}
use native.Mathlib.Omega.{arith}
use borrow.Author.Tests.{eq-eqb}
use lib.Dec.{eqb, leb}
use lib.ListN.{get_or}
use Rattle.counting.specs.Tests.{◌and◌}
use Rattle.counting.proofs.Joined.{no_way, and_passed}
use Rattle.model.specs.declared.Part.{Part}
use Rattle.model.specs.declared.Mark.TheVariants.{Cut}
use Rattle.model.specs.declared.Caps.{Caps}
use Rattle.model.specs.Limits.{line_room}
use Rattle.model.specs.Pattern.{Pattern, Inside, lines}
use Rattle.model.specs.Split.{part_number, cap_of}
use Rattle.model.specs.Marking.{Marking, mark_number, unmarked, taken, valid}
use Rattle.keeping.specs.Kept.{crossing_with, crossing_open, Holds, Placeable, marking_with}
use Rattle.keeping.proofs.MarkedLoads.{by_mark}
use Rattle.keeping.proofs.Holding.{left_open}
use Rattle.keeping.proofs.Placing.{placeable}
use Rattle.judging.specs.Bounds.{cap_at}
use Rattle.judging.proofs.Conditions.{by_part}
use Rattle.judging.proofs.Stepped.{cut_valid, part_valid}
use Rattle.judging.proofs.Bounds.{cap_at_lem}

-- what is said of a test whether line l can get mark p
abbrev pub Fits : Pattern → Caps → Marking → ℕ → ℕ → Bool → Type 0
Fits P caps μ l p r = (r ≡ valid P caps (marking_with μ l p)) × (r ≡ true → Placeable P μ l p)

-- the test of a load, where no crossing line is marked with the other part
pub load_test :
    (crossed x y z x' y' z' : ℕ) → crossed ≡ 0 → x ≡ x' → y ≡ y' → z ≡ z' →
    leb (x + y) z ≡ eqb crossed 0 and leb (x' + y') z'
load_test crossed x y z x' y' z' none e f g =
    rw (e, f, g) (sym (and_passed (leb (x' + y') z') (eq-eqb crossed 0 none)))

module _ {P : Pattern} {μ : Marking} {marks by left kinds tally sums loads : List ℕ} (i : Inside P) (h : Holds P μ marks by left kinds tally sums loads) (caps : Caps) (meets : valid P caps μ ≡ true) (l : ℕ) (b : l < lines P) (free : μ l ≡ unmarked) where
  fits : (p : ℕ) (r : Bool) → p ≤ mark_number Cut → r ≡ valid P caps (marking_with μ l p) → Fits P caps μ l p r
  fits p r m e = (e, λ t. placeable caps b free m (sym e ∙ t))

  -- every line can be cut
  pub cut_fits : (p : ℕ) → 1 < p → p ≤ mark_number Cut → Fits P caps μ l p true
  cut_fits p a m =
      let e : p ≡ mark_number Cut = omega arith in
      fits p true m (sym (ap (λ (x : ℕ). valid P caps (marking_with μ l x)) e ∙ cut_valid P μ l free caps meets))

  -- the test by what is kept and by the marking
  by_crossing :
      (q : Part) (r : Bool) →
      r ≡ eqb (get_or by (line_room * (1 - part_number q) + l) 0) 0 and leb (get_or loads (part_number q) 0 + get_or left l 0) (cap_at caps (part_number q)) →
      r ≡ eqb (crossing_with P μ (1 - part_number q) l) 0 and leb (taken P μ q + crossing_open P μ l) (cap_of caps q)
  by_crossing q r e =
      e ∙ rw (by_part h (1 - part_number q) l (omega arith) b, h.taken_is q, left_open h.stage l b, cap_at_lem caps q)

  -- a line can get a part just if no crossing line is marked with the other part, and the load fits
  pub part_fits :
      (p part : ℕ) (r : Bool) → p ≤ 1 → part ≡ p →
      r ≡ eqb (get_or by (line_room * (1 - part) + l) 0) 0 and leb (get_or loads part 0 + get_or left l 0) (cap_at caps part) →
      Fits P caps μ l p r
  part_fits p part r a same e =
      fits p r (omega arith) (by_mark
      (λ x. x < 2 → part ≡ x → r ≡ valid P caps (marking_with μ l x))
      (λ q c d. by_crossing q r (rw d at e) ∙ sym (part_valid P μ l free caps meets i q b))
      (λ c. no_way (omega arith))
      p
      (omega arith)
      (omega arith)
      same)
