-- Complete searches with the caps exchanged end at the same volume. Their tries may differ.
-- Assumes nothing.
use mathlib.Core.Bool.{true}
use mathlib.Core.List.{List}
use mathlib.Core.Option.{some}
use mathlib.Core.Path.{◌≡◌, sym, ◌∙◌}
use Prim.Native.Nat.{ℕ, ◌+◌, ◌≤◌}
use native.Mathlib.Nat.{le_antisymm}
use native.Mathlib.Omega.{arith}
use Rattle.model.specs.declared.Caps.{Caps}
use Rattle.model.specs.Pattern.{Pattern, Inside}
use Rattle.model.specs.Split.{volume, exchanged}
use Rattle.model.specs.Walk.{Record, rules_of, walked}
use Rattle.model.specs.Calls.{shown_from}
use Rattle.model.proofs.Order.Mirrored.{mirrored, mirrored-meets, mirrored-volume}
use Rattle.model.proofs.Theorems.Least.{Least, complete_least, least_shown}

-- a least split is at most as large as one that is least under the caps exchanged
least_exchanged :
    {P : Pattern} {caps : Caps} {r s : Record} (a : Least P caps (rules_of P caps) r) (b : Least P (exchanged caps) (rules_of P (exchanged caps)) s) →
    volume P (shown_from P (exchanged caps) b.marks) ≤ volume P (shown_from P caps a.marks)
least_exchanged {P} {caps} a b =
    let σ = shown_from P caps a.marks in
    omega (arith, b.least (mirrored σ) (mirrored-meets P caps σ a.meets), mirrored-volume P σ)

-- so the splits that complete searches show under the caps and under the caps exchanged have the same volume
pub exchanged-volume :
    (P : Pattern) (caps : Caps) (tries more : ℕ) (τ ν : List ℕ) →
    Inside P → P.size ≤ caps.cap0 + caps.cap1 →
    (walked P caps tries).complete ≡ true → (walked P caps tries).best ≡ some τ →
    (walked P (exchanged caps) more).complete ≡ true → (walked P (exchanged caps) more).best ≡ some ν →
    volume P (shown_from P caps τ) ≡ volume P (shown_from P (exchanged caps) ν)
unfolding exchanged
exchanged-volume P caps tries more τ ν i enough done best also found =
    let a = complete_least P caps tries i enough done in
    let b = complete_least P (exchanged caps) more i (omega arith) also in
    least_shown a best
    ∙ le_antisymm (least_exchanged b a) (least_exchanged a b)
    ∙ sym (least_shown b found)
