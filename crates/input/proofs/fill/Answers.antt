use Rattle.std.proofs.Common.{◌≡◌, ℕ, ◌+◌, ◌-◌, ◌≤◌, List, ◌++◌, arith, length, take, refl, sym, subst, le_refl, drop_at, length-take-le}
use Rattle.std.proofs.Math.Seq.{take-add, take-append_seam}
use Rattle.std.proofs.lemmas.List.{take-append-le}
use Rattle.std.proofs.lemmas.Slice.{take-put_mid_below}
use Rattle.std.specs.Io.KnownBytes.{Consumes}
use Rattle.std.proofs.KnownBytes.{Consumes-trans, Consumes-kept}
use borrow.Rule.Slice.PartMut.{post_of}
use Rattle.input.proofs.fill.Goals as goal
use Rattle.input.proofs.fill.Goals.{in-Ok, in-Err+else-ne}

-- what was there before a place, and then the first of the bytes put there
filled : (front ys rest : List ℕ) (a n : ℕ) → length front ≡ a → n ≤ length ys → front ++ take n ys ≡ take (a + n) (front ++ (ys ++ rest))
filled front ys rest a n e h = rw (← e, take-add, take-append_seam, drop_at front (ys ++ rest) (length front) refl, take-append-le n ys rest h)

pub loop-preserved : goal.loop-preserved
loop-preserved g c =
    let v = c.loop in
    let rest = post_of v.at (length v.page - v.at) v.page in
    let front = length-take-le v.at v.page v.invariant.0 in
    elim c.match-read.branch [
      | in-Ok w ↦ (omega (arith, w.in-Ok.ensures.bound.0), rw w.at-is (subst (Consumes _ _) (filled (take v.at v.page) c.read.new.buf rest v.at w.in-Ok.count front w.in-Ok.ensures.bound.0) (Consumes-trans _ _ _ _ _ v.invariant.1 w.in-Ok.ensures.bytes.0)))
      | in-Err+else-ne w ↦ (omega arith, rw w.at-is (Consumes-kept _ _ _ _ (subst (Consumes _ _) (sym (take-put_mid_below _ _ _ _ _ (le_refl _) v.invariant.0)) v.invariant.1) w.in-Err.ensures.bytes))
    ]
