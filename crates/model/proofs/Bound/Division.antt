-- A division of the nonzeros over the parts with a set of cut lines, as a marking must be extended: what it does with taken nonzeros, and with torn and leaning lines.
-- Assumes nothing.
use mathlib.Core.Bool.{Bool, true, false}
use mathlib.Core.Path.{◌≡◌}
use Prim.Native.Nat.{ℕ, ◌≤◌, ◌<◌}
use Rattle.counting.specs.Tests.{◌and◌}
use Rattle.counting.specs.Sums.{count}
use Rattle.counting.proofs.Joined.{clash, passes, and_left, and_right}
use Rattle.counting.proofs.Counted.{any_elim}
use Rattle.model.specs.declared.Part.{Part}
use Rattle.model.specs.declared.Part.TheVariants.{Zero, One}
use Rattle.model.specs.declared.Mark.TheVariants.{Cut}
use Rattle.model.specs.declared.Caps.{Caps}
use Rattle.model.specs.Pattern.{Pattern, lines, on}
use Rattle.model.specs.Split.{cap_of}
use Rattle.model.specs.Marking.{Marking, mark_number, takes, touched, condition}
use Rattle.model.specs.Bound.{says_cut, says_torn, leans}
use Rattle.model.proofs.Bound.Conditions.{cut_marked, torn_line, leaning_line}

-- a division that extends a marking: `gives p t`, nonzero t goes to p; `cut l`, line l is cut
pub record Division (P : Pattern) (caps : Caps) (μ : Marking) (gives : Part → ℕ → Bool) (cut : ℕ → Bool) : Type 0 where
  -- a nonzero taken by p goes to p
  pub taken_given : (p : Part) (t : ℕ) → t < P.size → takes P μ p t ≡ true → gives p t ≡ true
  -- a line with mark cut is cut
  pub marked_cut : (l : ℕ) → l < lines P → μ l ≡ mark_number Cut → cut l ≡ true
  -- no nonzero goes to both parts
  pub once : (t : ℕ) → t < P.size → gives Zero t ≡ true → gives One t ≡ false
  -- a part has at most its cap of nonzeros
  pub fits : (p : Part) → count (gives p) P.size ≤ cap_of caps p
  -- a line that is not cut has all its nonzeros in the part of one of them
  pub whole :
      (p : Part) (l s t : ℕ) → l < lines P → cut l ≡ false → s < P.size → t < P.size →
      on P l s ≡ true → on P l t ≡ true → gives p s ≡ true → gives p t ≡ true

module _ {P : Pattern} {caps : Caps} {μ : Marking} {gives : Part → ℕ → Bool} {cut : ℕ → Bool} (d : Division P caps μ gives cut) where
  -- a line with a nonzero taken by p has a nonzero that goes to p
  touched_gives :
      (p : Part) (l : ℕ) → touched P μ p l ≡ true →
      (s : ℕ) × (s < P.size) × (on P l s ≡ true) × (gives p s ≡ true)
  unfolding touched
  touched_gives p l h =
      let w = any_elim (λ t. on P l t and takes P μ p t) P.size h in (
        w.0,
        w.1,
        and_left (on P l w.0) (takes P μ p w.0) w.2,
        d.taken_given p w.0 w.1 (and_right (on P l w.0) (takes P μ p w.0) w.2),
      )

  -- a line marked cut is cut
  pub says_cut_lem : (l : ℕ) → l < lines P → says_cut (condition P μ l) ≡ true → cut l ≡ true
  says_cut_lem l b h = d.marked_cut l b (cut_marked P μ l h)

  -- a line that leans to p and has a nonzero outside p is cut
  pub leaning_cut :
      (p : Part) (l t : ℕ) → l < lines P → t < P.size →
      on P l t ≡ true → leans P μ p l ≡ true → gives p t ≡ false → cut l ≡ true
  leaning_cut p l t b c h e away =
      let w = touched_gives p l (leaning_line P μ p l e).near in
      passes (cut l) (λ uncut. clash (d.whole p l w.0 t b uncut w.1 c w.2 h w.3) away)

  -- a torn line is cut
  pub torn_cut : (l : ℕ) → l < lines P → says_torn (condition P μ l) ≡ true → cut l ≡ true
  torn_cut l b h =
      let f = torn_line P μ l h in
      let v = touched_gives Zero l f.by_zero in
      let w = touched_gives One l f.by_one in
      passes
      (cut l)
      (λ uncut. clash
      w.3
      (d.once w.0 w.1 (d.whole Zero l v.0 w.0 b uncut v.1 w.1 v.2 w.2 v.3)))
