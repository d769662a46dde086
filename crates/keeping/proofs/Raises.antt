-- Stores that add to a place of a list or take from it, and what a few of them make of the tally and the sums.
-- Assumes nothing.
use mathlib.Core.Bool.{Bool, true, false}
use mathlib.Core.List.{List}
use mathlib.Core.Path.{◌≡◌, refl, sym, ◌∙◌, ap, subst}
use Prim.Native.Nat.{ℕ, ◌+◌, ◌-◌, ◌≤◌, ◌<◌}
use native.Mathlib.Omega.{arith}
use borrow.Author.Tests.{eq-eqb, ne_eqb, eqb-true, eqb-false, lt-ltb, le-ltb}
use lib.Dec.{eqb}
use lib.ListN.{length, get_or, set, length-set}
use Rattle.counting.specs.Tests.{◌and◌, pick, bit}
use Rattle.counting.proofs.Joined.{no_way, clash, by_test, pick_true, pick-false, bit-true, bit-false, and_intro, and_left, and_right, and_fails_left}
use Rattle.counting.proofs.Lists.{set-pick}
use Rattle.model.specs.Limits.{line_room}
use Rattle.keeping.specs.Tied.{weight_room, tally_place, near_place, tally_room, both_place, torn_place, conflicts_place}
use Rattle.keeping.specs.Moves.{Raised, Adds, Moves}

pub raised_by-store :
    (xs : List ℕ) (i v : ℕ) → i < length xs → Raised i v xs (set xs i (get_or xs i 0 + v))
raised_by-store xs i v b =
    record {
      long = length-set xs i (get_or xs i 0 + v);
      more = λ j c. set-pick xs i j (get_or xs i 0 + v) c ∙ by_test
          (eqb j i)
          (λ e. omega (arith, ap (λ (k : ℕ). get_or xs k 0) (eqb-true j i e), pick_true (get_or xs i 0 + v) (get_or xs j 0) e, pick_true v 0 e))
          (λ e. omega (arith, pick-false (get_or xs i 0 + v) (get_or xs j 0) e, pick-false v 0 e));
    }

pub lowered_by-store :
    (xs : List ℕ) (i v : ℕ) → i < length xs → v ≤ get_or xs i 0 → Raised i v (set xs i (get_or xs i 0 - v)) xs
lowered_by-store xs i v b h =
    record {
      long = sym (length-set xs i (get_or xs i 0 - v));
      more = λ j c. let d : j < length xs = omega (arith, length-set xs i (get_or xs i 0 - v)) in
          by_test
          (eqb j i)
          (λ e. omega (arith, set-pick xs i j (get_or xs i 0 - v) d, ap (λ (k : ℕ). get_or xs k 0) (eqb-true j i e), pick_true (get_or xs i 0 - v) (get_or xs j 0) e, pick_true v 0 e))
          (λ e. omega (arith, set-pick xs i j (get_or xs i 0 - v) d, pick-false (get_or xs i 0 - v) (get_or xs j 0) e, pick-false v 0 e));
    }

-- at its place, and at any other
module _ {i v : ℕ} {xs ys : List ℕ} (raised : Raised i v xs ys) where
  pub raised_here : (j : ℕ) → j ≡ i → j < length xs → get_or ys j 0 ≡ get_or xs j 0 + v
  raised_here j e b = omega (arith, raised.more j b, pick_true v 0 (eq-eqb j i e))

  pub raised_else : (j : ℕ) → (j ≡ i → ⊥) → j < length xs → get_or ys j 0 ≡ get_or xs j 0
  raised_else j n b = omega (arith, raised.more j b, pick-false v 0 (ne_eqb j i n))

-- at a place that a test tells from all others
raised_if :
    {i v : ℕ} {xs ys : List ℕ} → Raised i v xs ys → (test : Bool) (j : ℕ) → (test ≡ true → j ≡ i) →
    (test ≡ false → j ≡ i → ⊥) → j < length xs → get_or ys j 0 ≡ get_or xs j 0 + pick test v 0
raised_if {i} {v} raised test j here else b =
    by_test
    test
    (λ e. omega (arith, raised_here raised j (here e) b, pick_true v 0 e))
    (λ e. omega (arith, raised_else raised j (else e) b, pick-false v 0 e))

-- one line more in the tally
tally_raised :
    {q y : ℕ} {tally tally' : List ℕ} → Raised (tally_place q y) 1 tally tally' → length tally ≡ tally_room →
    q < 2 → y < weight_room → (p x : ℕ) → p < 2 → x < weight_room →
    get_or tally' (tally_place p x) 0 ≡ get_or tally (tally_place p x) 0 + bit (eqb q p and eqb y x)
tally_raised {q} {y} {tally} {tally'} raised long c e p x b d =
    by_test
    (eqb q p and eqb y x)
    (λ h. let k : q ≡ p = eqb-true q p (and_left (eqb q p) (eqb y x) h) in
    let w : y ≡ x = eqb-true y x (and_right (eqb q p) (eqb y x) h) in
    omega (arith, raised_here raised (tally_place p x) (omega arith) (omega arith), bit-true (eqb q p and eqb y x) h))
    (λ h. omega (arith, raised_else raised (tally_place p x) (elsewhere h) (omega arith), bit-false (eqb q p and eqb y x) h))
  where
    elsewhere : eqb q p and eqb y x ≡ false → tally_place p x ≡ tally_place q y → ⊥
    elsewhere h s = clash (and_intro (eq-eqb q p (omega (arith, s))) (eq-eqb y x (omega (arith, s)))) h

-- and no crossing line more
near_kept :
    {i q y : ℕ} {tally tally' : List ℕ} → Raised i 1 tally tally' → i ≡ tally_place q y → length tally ≡ tally_room →
    q < 2 → y < weight_room → (p z : ℕ) → p < 2 → z < line_room →
    get_or tally' (near_place p z) 0 ≡ get_or tally (near_place p z) 0
near_kept raised at long c e p z b d = raised_else raised (near_place p z) (λ s. no_way (omega arith)) (omega arith)

-- a line that leans: its place in the tally, then three of the sums
pub adds_leaning :
    {kind own same other : ℕ} {tally sums tally' sums₁ sums₂ sums' : List ℕ} → kind < 2 → own < weight_room →
    length tally ≡ tally_room → length sums ≡ 6 →
    Raised (tally_place kind own) 1 tally tally' → Raised kind own sums sums₁ →
    Raised (both_place kind) same sums₁ sums₂ →
    Raised conflicts_place other sums₂ sums' → Adds kind own same other tally sums tally' sums'
adds_leaning {kind} {own} {same} {other} {tally} {sums} {tally'} {sums₁} {sums₂} {sums'} leans light tally_long sums_long t a b c =
    record {
      tally_long = t.long;
      sums_long = c.long ∙ b.long ∙ a.long;
      tally_adds = tally_raised t tally_long leans light;
      near_stays = near_kept t refl tally_long leans light;
      left_adds = λ p d. omega (
        arith,
        raised_if a (eqb kind p) p (λ e. sym (eqb-true kind p e)) (λ e s. eqb-false kind p e (sym s)) (omega arith),
        raised_else b p (λ q. no_way (omega arith)) (omega (arith, long₁)),
        raised_else c p (λ q. no_way (omega arith)) (omega (arith, long₂)),
      );
      both_adds = λ p d. omega (
        arith,
        raised_else a (both_place p) (λ s. no_way (omega arith)) (omega arith),
        raised_if b (eqb kind p) (both_place p) (λ e. omega (arith, eqb-true kind p e)) (λ e s. eqb-false kind p e (omega arith)) (omega (arith, long₁)),
        raised_else c (both_place p) (λ s. no_way (omega arith)) (omega (arith, long₂)),
      );
      torn_adds = omega (
        arith,
        bit-false (eqb kind 3) (ne_eqb kind 3 (λ s. no_way (omega arith))),
        raised_else a torn_place (λ s. no_way (omega arith)) (omega arith),
        raised_else b torn_place (λ s. no_way (omega arith)) (omega (arith, long₁)),
        raised_else c torn_place (λ s. no_way (omega arith)) (omega (arith, long₂)),
      );
      conflicts_adds = omega (
        arith,
        pick_true other 0 (lt-ltb kind 2 leans),
        raised_else a conflicts_place (λ s. no_way (omega arith)) (omega arith),
        raised_else b conflicts_place (λ s. no_way (omega arith)) (omega (arith, long₁)),
        raised_here c conflicts_place refl (omega (arith, long₂)),
      );
    }
  where
    long₁ : length sums₁ ≡ 6
    long₁ = a.long ∙ sums_long

    long₂ : length sums₂ ≡ 6
    long₂ = b.long ∙ long₁

-- a torn line
pub adds_torn :
    {own same other : ℕ} {tally sums sums' : List ℕ} → length sums ≡ 6 →
    Raised torn_place 1 sums sums' → Adds 3 own same other tally sums tally sums'
adds_torn {own} {same} {other} {tally} {sums} {sums'} long a =
    record {
      tally_long = refl;
      sums_long = a.long;
      tally_adds = λ p x b d. omega (arith, bit-false (eqb 3 p and eqb own x) (and_fails_left (eqb own x) (ne_eqb 3 p (λ s. no_way (omega arith)))));
      near_stays = λ p z b d. refl;
      left_adds = λ p b. omega (arith, pick-false own 0 (ne_eqb 3 p (λ s. no_way (omega arith))), raised_else a p (λ s. no_way (omega arith)) (omega arith));
      both_adds = λ p b. omega (arith, pick-false same 0 (ne_eqb 3 p (λ s. no_way (omega arith))), raised_else a (both_place p) (λ s. no_way (omega arith)) (omega arith));
      torn_adds = omega (arith, bit-true (eqb 3 3) (eq-eqb 3 3 refl), raised_here a torn_place refl (omega arith));
      conflicts_adds = omega (arith, pick-false other 0 (le-ltb 3 2 (omega arith)), raised_else a conflicts_place (λ s. no_way (omega arith)) (omega arith));
    }

-- any other line
pub adds_nothing :
    {kind own same other : ℕ} {tally sums : List ℕ} → 2 ≤ kind → (kind ≡ 3 → ⊥) →
    Adds kind own same other tally sums tally sums
adds_nothing {kind} {own} {same} {other} b n =
    record {
      tally_long = refl;
      sums_long = refl;
      tally_adds = λ p x d e. omega (arith, bit-false (eqb kind p and eqb own x) (and_fails_left (eqb own x) (ne_eqb kind p (λ s. no_way (omega arith)))));
      near_stays = λ p z d e. refl;
      left_adds = λ p d. omega (arith, pick-false own 0 (ne_eqb kind p (λ s. no_way (omega arith))));
      both_adds = λ p d. omega (arith, pick-false same 0 (ne_eqb kind p (λ s. no_way (omega arith))));
      torn_adds = omega (arith, bit-false (eqb kind 3) (ne_eqb kind 3 n));
      conflicts_adds = omega (arith, pick-false other 0 (le-ltb kind 2 b));
    }

-- a line that leans has one untaken nonzero less: two places of the tally, and one of the sums
pub moves_down :
    {kind from to i j k : ℕ} {tally sums tally₁ tally' sums' : List ℕ} → kind < 2 → from < weight_room →
    from ≡ to + 1 → length tally ≡ tally_room → length sums ≡ 6 → i ≡ tally_place kind from →
    j ≡ tally_place kind to → k ≡ kind → Raised i 1 tally₁ tally → Raised j 1 tally₁ tally' →
    Raised k 1 sums' sums → Moves kind from to tally sums tally' sums'
moves_down {kind} {from} {to} {i} {j} {k} {tally} {sums} {tally₁} {tally'} {sums'} leans light one tally_long sums_long i-is j-is k_is out into a =
    let long : length tally₁ ≡ tally_room = sym out.long ∙ tally_long in
    record {
      tally_long = into.long ∙ sym out.long;
      sums_long = sym a.long;
      tally_moves = λ p x b d. omega (
        arith,
        tally_raised (subst (λ (z : ℕ). Raised z 1 tally₁ tally) i-is out) long leans light p x b d,
        tally_raised (subst (λ (z : ℕ). Raised z 1 tally₁ tally') j-is into) long leans (omega arith) p x b d,
      );
      near_stays = λ p z b d. near_kept into j-is long leans (omega arith) p z b d ∙ sym (near_kept out i-is long leans light p z b d);
      left_moves = λ p b. by_test
          (eqb kind p)
          (λ e. omega (
            arith,
            pick_true from 0 e,
            pick_true to 0 e,
            raised_here a p (sym (k_is ∙ eqb-true kind p e)) (omega (arith, a.long)),
          ))
          (λ e. omega (
            arith,
            pick-false from 0 e,
            pick-false to 0 e,
            raised_else a p (λ s. eqb-false kind p e (sym (s ∙ k_is))) (omega (arith, a.long)),
          ));
      rest_stays = λ l b d. sym (raised_else a l (λ s. no_way (omega (arith, s, k_is))) (omega (arith, a.long)));
    }

-- the same, back
pub moves_back :
    {kind from to : ℕ} {tally sums tally' sums' : List ℕ} →
    Moves kind from to tally sums tally' sums' → Moves kind to from tally' sums' tally sums
moves_back moves =
    record {
      tally_long = sym moves.tally_long;
      sums_long = sym moves.sums_long;
      tally_moves = λ p x b d. sym (moves.tally_moves p x b d);
      near_stays = λ p z b d. sym (moves.near_stays p z b d);
      left_moves = λ p b. sym (moves.left_moves p b);
      rest_stays = λ i b d. sym (moves.rest_stays i b d);
    }

-- a line that does not lean moves nothing
pub moves_nothing :
    {kind from to : ℕ} {tally sums : List ℕ} → 2 ≤ kind → Moves kind from to tally sums tally sums
moves_nothing {kind} {from} {to} b =
    record {
      tally_long = refl;
      sums_long = refl;
      tally_moves = λ p x d e. omega (
        arith,
        bit-false (eqb kind p and eqb from x) (and_fails_left (eqb from x) (ne_eqb kind p (λ s. no_way (omega arith)))),
        bit-false (eqb kind p and eqb to x) (and_fails_left (eqb to x) (ne_eqb kind p (λ s. no_way (omega arith)))),
      );
      near_stays = λ p z d e. refl;
      left_moves = λ p d. omega (
        arith,
        pick-false from 0 (ne_eqb kind p (λ s. no_way (omega arith))),
        pick-false to 0 (ne_eqb kind p (λ s. no_way (omega arith))),
      );
      rest_stays = λ i d e. refl;
    }
