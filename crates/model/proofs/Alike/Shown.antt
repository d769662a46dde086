-- Markings that agree on the lines of patterns that are alike show the same split, and it is written alike.
-- Assumes nothing.
use mathlib.Core.List.{List}
use mathlib.Core.Path.{◌≡◌, refl, ◌∙◌, ap}
use Prim.Native.Nat.{ℕ, zero, suc, ◌≤◌, ◌<◌}
use native.Mathlib.Omega.{arith}
use Rattle.model.specs.declared.Part.TheVariants.{Zero, One}
use Rattle.model.specs.declared.Caps.{Caps}
use Rattle.model.specs.Pattern.{Pattern}
use Rattle.model.specs.Split.{volume}
use Rattle.model.specs.Marking.{Marking}
use Rattle.model.specs.Walk.{filled, shown_split}
use Rattle.model.specs.Calls.{shown_from, part_bytes}
use Rattle.model.proofs.Alike.Patterns.{Alike}
use Rattle.model.proofs.Alike.Splits.{bytes_same, volume_same}
use Rattle.model.proofs.Alike.Marks.{AlikeMarks, trail_marks, takes_same, taken_same, untaken_same}

module _ {P Q : Pattern} {μ ν : Marking} (k : AlikeMarks P Q μ ν) (caps : Caps) where
  -- as many go to 0 before a nonzero
  filled_same : (t : ℕ) → t ≤ P.size → filled P caps μ t ≡ filled Q caps ν t
  unfolding filled
  filled_same zero b = refl
  filled_same (suc t) b =
      let before = filled_same t (omega arith) in
      let free = untaken_same k t (omega arith) in
      rw (before, free, taken_same k Zero)

  -- the same split
  pub shown_same : (t : ℕ) → t < P.size → shown_split P caps μ t ≡ shown_split Q caps ν t
  unfolding shown_split
  shown_same t b =
      let before = filled_same t (omega arith) in
      rw (takes_same k Zero t b, takes_same k One t b, before, taken_same k Zero)

  -- which is written alike
  pub shown-bytes_same :
      (parts : List ℕ) →
      part_bytes (shown_split P caps μ) P.size parts ≡ part_bytes (shown_split Q caps ν) Q.size parts
  shown-bytes_same parts =
      bytes_same (shown_split P caps μ) (shown_split Q caps ν) P.size parts shown_same
      ∙ ap (λ (x : ℕ). part_bytes (shown_split Q caps ν) x parts) k.patterns.size_same

module _ {P Q : Pattern} (a : Alike P Q) (caps : Caps) (best : List ℕ) where
  -- the split shown from a best marking
  pub alike_shown : (t : ℕ) → t < P.size → shown_from P caps best t ≡ shown_from Q caps best t
  unfolding shown_from
  alike_shown t b = shown_same (trail_marks a best) caps t b

  pub alike_bytes :
      (parts : List ℕ) →
      part_bytes (shown_from P caps best) P.size parts ≡ part_bytes (shown_from Q caps best) Q.size parts
  unfolding shown_from
  alike_bytes parts = shown-bytes_same (trail_marks a best) caps parts

  -- and its volume
  pub alike_shown-volume : volume P (shown_from P caps best) ≡ volume Q (shown_from Q caps best)
  alike_shown-volume = volume_same a (shown_from P caps best) (shown_from Q caps best) alike_shown
