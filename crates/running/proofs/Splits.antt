-- The split that a marking shows, written by its marks by line, and its volume.
-- Assumes nothing.
use mathlib.Core.List.{List}
use mathlib.Core.Path.{◌≡◌, sym, ◌∙◌, ap}
use Prim.Native.Nat.{ℕ, ◌+◌, ◌≤◌, ◌<◌}
use native.Mathlib.Omega.{arith}
use lib.ListN.{length, get_or}
use Rattle.trail.specs.Trail.{mark_room}
use Rattle.model.specs.Limits.{line_room}
use Rattle.model.specs.declared.Part.TheVariants.{Zero}
use Rattle.trail.specs.declared.Trail.{Trail}
use Rattle.model.specs.declared.Caps.{Caps}
use Rattle.model.specs.Pattern.{pattern_of}
use Rattle.model.specs.Split.{volume}
use Rattle.model.specs.Marking.{marking, taken}
use Rattle.model.specs.Walk.{shown_split}
use Rattle.model.specs.State.{marks_in}
use Rattle.model.specs.Calls.{shown_from, part_bytes}
use Rattle.model.proofs.Alike.Shown.{shown-bytes_same}
use Rattle.model.proofs.Theorems.OfList.{size_of}
use Rattle.pattern.specs.Splits.{split_of}
use Rattle.marking.specs.Marks.{mark_for}
use Rattle.weighing.specs.Cells.{marking_in}
use Rattle.weighing.specs.declared.taking.Taken.{Taken}
use Rattle.weighing.specs.Taking.{TakenOf}
use Rattle.bound.specs.Evaluated.{Listed, Placed}
use Rattle.pattern.specs.Room.{within}
use Rattle.bound.proofs.Evaluations.{listed_few}
use Rattle.showing.proofs.ReadBack.{volume-back}
use Rattle.state.specs.Holding.{cleared_to}
use Rattle.state.proofs.ByLine.{cleared_alike}

module _
    (m n nonzeros : ℕ) (list places starts : List ℕ) (caps : Caps) (total : ℕ) (best kept : Trail) (entries parts new : List ℕ) (counted : Taken)
    (clears : kept ≡ cleared_to best)
    (all : total ≡ within (m + n))
    (marked : (length entries ≡ line_room) × ((l : ℕ) → l < line_room → get_or entries l 0 ≡ mark_for total places kept.marks kept.len l))
    (counts : TakenOf (pattern_of m n nonzeros list) (marking_in entries) counted)
    (writes : counted.zero ≡ taken (pattern_of m n nonzeros list) (marking_in entries) Zero → new ≡ part_bytes (shown_split (pattern_of m n nonzeros list) caps (marking_in entries)) nonzeros parts)
    (listed : Listed m n nonzeros list starts) (placed : Placed (pattern_of m n nonzeros list) places) (short : best.len ≤ mark_room) where
  -- the parts, where the marks by line are those of the marking
  pub parts_shown : new ≡ part_bytes (shown_from (pattern_of m n nonzeros list) caps (marks_in best)) nonzeros parts
  unfolding shown_from
  parts_shown =
      let P = pattern_of m n nonzeros list in
      let k = cleared_alike m n nonzeros list places entries total best kept clears all marked (listed_few listed) listed.inside placed short in
      writes counts.zero_is
      ∙ ap (λ (x : ℕ). part_bytes (shown_split P caps (marking_in entries)) x parts) (sym (size_of m n nonzeros list))
      ∙ shown-bytes_same k caps parts
      ∙ ap (λ (x : ℕ). part_bytes (shown_split P caps (marking P (marks_in best))) x parts) (size_of m n nonzeros list)

  -- and the volume read off them
  pub volume-shown :
      (r : ℕ) → nonzeros ≤ length parts → r ≡ volume (pattern_of m n nonzeros list) (split_of new) →
      r ≡ volume (pattern_of m n nonzeros list) (shown_from (pattern_of m n nonzeros list) caps (marks_in best))
  volume-shown r room e =
      let P = pattern_of m n nonzeros list in
      let σ = shown_from P caps (marks_in best) in
      e
      ∙ ap (λ (b : List ℕ). volume P (split_of b)) (parts_shown ∙ ap (λ (x : ℕ). part_bytes σ x parts) (sym (size_of m n nonzeros list)))
      ∙ volume-back P σ parts (omega (arith, size_of m n nonzeros list, room))
