-- `matching::augmenting::Ground::at_odds` meets its contract. The leanings past their end are 0.
-- Assumes nothing.
use mathlib.Core.List.{List}
use mathlib.Core.Path.{◌≡◌, sym, ◌∙◌, ap}
use Prim.Native.Nat.{ℕ, ◌+◌, ◌≤◌, ◌<◌}
use native.Mathlib.Omega.{arith}
use lib.Dec.{ltb}
use lib.ListN.{length, get_or, get_or-eq_default}
use borrow.Author.Tests.{ltb-true, lt-ltb}
use Rattle.counting.specs.Tests.{◌and◌}
use Rattle.counting.proofs.Joined.{by_test, and_passed, and_fails_left}
use Rattle.matching.specs.Augmenting.{side_room, different, at_odds}
use Rattle.matching.proofs.augmenting.Ground.at_odds.Goals as goal

-- a column that the leanings have room for, and one that they have none for
odds-held :
    (lean : List ℕ) (m i j : ℕ) → j < side_room → different (get_or lean i 0) (get_or lean (m + j) 0) ≡ at_odds lean m i j
unfolding at_odds
odds-held lean m i j b = sym (and_passed _ (lt-ltb j side_room b))

odds-past :
    (lean : List ℕ) (m i j : ℕ) → (j < side_room → length lean ≤ m + j) →
    (ltb j side_room and different (get_or lean i 0) 0) ≡ at_odds lean m i j
unfolding at_odds
odds-past lean m i j past =
    by_test
    (ltb j side_room)
    (λ e. ap
    (λ (x : ℕ). ltb j side_room and different (get_or lean i 0) x)
    (sym (get_or-eq_default lean 0 (past (ltb-true j side_room e)))))
    (λ e. and_fails_left _ e ∙ sym (and_fails_left _ e))

pub returns-then-column-columns_held : goal.returns-then-column-columns_held
returns-then-column-columns_held c =
    let a = c.args in
    let inside : a.j < side_room = omega arith in
    let held = odds-held a.self.now.lean.now a.self.now.m a.i a.j inside in
    cc

pub returns : goal.returns
returns c =
    let a = c.args in
    let past = odds-past a.self.now.lean.now a.self.now.m a.i a.j (λ b. omega (arith, c.columns_held.ensures.2 (omega arith))) in
    cc
