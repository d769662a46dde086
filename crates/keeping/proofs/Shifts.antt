-- A line is counted once more, or once less, among the crossing lines of a kind of each line that it crosses.
-- Assumes nothing.
use mathlib.Core.List.{List}
use mathlib.Core.Path.{◌≡◌, refl, sym, ◌∙◌, ap}
use Prim.Native.Nat.{ℕ, ◌+◌, ◌≤◌, ◌<◌}
use native.Mathlib.Omega.{arith}
use borrow.Author.Tests.{eq-eqb, ne_eqb, eqb-true, eqb-false}
use lib.Dec.{eqb}
use lib.ListN.{length, get_or}
use Rattle.counting.specs.Tests.{pick, bit}
use Rattle.counting.proofs.Joined.{no_way, by_test, pick_true, pick-false, bit-true, bit-false}
use Rattle.model.specs.Limits.{line_room}
use Rattle.model.specs.Pattern.{Pattern, lines}
use Rattle.crossing.specs.Crossing.{Laid}
use Rattle.keeping.specs.Tied.{tally_place, near_place, tally_room}
use Rattle.keeping.specs.Moves.{Raised, Nears}
use Rattle.keeping.specs.Kept.{meets}
use Rattle.keeping.proofs.Marked.{pick-zero}
use Rattle.keeping.proofs.Raises.{raised_here, raised_else}
use Rattle.keeping.proofs.Standing.{standing, standing-none, standing_all, Turn, turn_within, turn_own, standing-more, standing_less, standing_both}

-- nothing is counted of a line of no part,
pub nears_nothing : {kind : ℕ} {much : ℕ → ℕ} {tally : List ℕ} → 2 ≤ kind → Nears kind much tally tally
nears_nothing {kind} {much} b =
    record {
      long = refl;
      tally_stays = λ p x c d. refl;
      near_adds = λ p z c d. omega (arith, pick-false (much z) 0 (ne_eqb kind p (λ e. no_way (omega arith))));
    }

-- nor where no line is counted
nears_none :
    {kind : ℕ} {tally : List ℕ} (much : ℕ → ℕ) → ((z : ℕ) → much z ≡ 0) → Nears kind much tally tally
nears_none {kind} much h =
    record {
      long = refl;
      tally_stays = λ p x c d. refl;
      near_adds = λ p z c d. omega (arith, pick-zero (eqb kind p) (much z) (h z));
    }

-- other numbers that agree
nears_eq :
    {kind : ℕ} {much : ℕ → ℕ} {tally tally' : List ℕ} (more : ℕ → ℕ) → ((z : ℕ) → much z ≡ more z) →
    Nears kind much tally tally' → Nears kind more tally tally'
nears_eq {kind} {much} {tally} more same nears =
    record {
      long = nears.long;
      tally_stays = nears.tally_stays;
      near_adds = λ p z b c. nears.near_adds p z b c ∙ ap (λ (x : ℕ). get_or tally (near_place p z) 0 + pick (eqb kind p) x 0) (same z);
    }

-- first some lines, then others
nears_join :
    {kind : ℕ} {first second : ℕ → ℕ} {tally tally₁ tally' : List ℕ} → Nears kind first tally tally₁ →
    Nears kind second tally₁ tally' → Nears kind (λ z. first z + second z) tally tally'
nears_join {kind} {first} {second} a b =
    record {
      long = b.long ∙ a.long;
      tally_stays = λ p x c d. b.tally_stays p x c d ∙ a.tally_stays p x c d;
      near_adds = λ p z c d. by_test
          (eqb kind p)
          (λ e. omega (arith, a.near_adds p z c d, b.near_adds p z c d, pick_true (first z) 0 e, pick_true (second z) 0 e, pick_true (first z + second z) 0 e))
          (λ e. omega (arith, a.near_adds p z c d, b.near_adds p z c d, pick-false (first z) 0 e, pick-false (second z) 0 e, pick-false (first z + second z) 0 e));
    }

-- one line more at the place of line y
nears_one :
    {i kind y : ℕ} {tally tally' : List ℕ} → Raised i 1 tally tally' → i ≡ near_place kind y → length tally ≡ tally_room →
    kind < 2 → y < line_room → Nears kind (λ z. bit (eqb y z)) tally tally'
nears_one {i} {kind} {y} {tally} raised at long leans line =
    record {
      long = raised.long;
      tally_stays = λ p x b c. raised_else raised (tally_place p x) (λ s. no_way (omega arith)) (omega arith);
      near_adds = λ p z b c. by_test
          (eqb kind p)
          (λ e. let d : kind ≡ p = eqb-true kind p e in
          by_test
          (eqb y z)
          (λ f. let w : y ≡ z = eqb-true y z f in
          omega (arith, raised_here raised (near_place p z) (omega arith) (omega arith), pick_true (bit (eqb y z)) 0 e, bit-true (eqb y z) f))
          (λ f. omega (arith, raised_else raised (near_place p z) (λ s. eqb-false y z f (omega arith)) (omega arith), pick_true (bit (eqb y z)) 0 e, bit-false (eqb y z) f)))
          (λ e. omega (arith, raised_else raised (near_place p z) (λ s. eqb-false kind p e (omega arith)) (omega arith), pick-false (bit (eqb y z)) 0 e));
    }

-- before a loop's first turn no line is counted, and after its last each as often as it meets line l
pub nears_start :
    {kind : ℕ} {tally : List ℕ} (cross : List ℕ) (a b : ℕ) → a ≡ b → Nears kind (standing cross a b) tally tally
nears_start cross a b e = nears_none (standing cross a b) (λ z. standing-none cross a b z e)

pub nears_end :
    {P : Pattern} {starts cross : List ℕ} {kind : ℕ} {tally tally' : List ℕ} → Laid P starts cross → (l a b : ℕ) → l < lines P →
    get_or starts l 0 ≡ a → get_or starts (l + 1) 0 ≡ b → Nears kind (standing cross a b) tally tally' → Nears kind (meets P l) tally tally'
nears_end {P} laid l a b line e f = nears_eq (meets P l) (standing_all laid l a b line e f)

-- one turn of the loop, at line y
module _ {P : Pattern} {starts cross : List ℕ} {l i y : ℕ} (turn : Turn P starts cross l i y) {kind at : ℕ} (leans : kind < 2) (here : at ≡ near_place kind y) {tally tally₁ : List ℕ} (long : length tally ≡ tally_room) where
  -- it is counted once more
  pub shift_up :
      {tally' : List ℕ} → Nears kind (standing cross (get_or starts l 0) i) tally tally₁ → Raised at 1 tally₁ tally' →
      Nears kind (standing cross (get_or starts l 0) (i + 1)) tally tally'
  shift_up nears raised =
      nears_eq
      (standing cross (get_or starts l 0) (i + 1))
      (λ z. sym (standing-more turn z))
      (nears_join nears (nears_one raised here (nears.long ∙ long) leans (turn_within turn)))

  -- and can be
  pub shift_fits :
      Nears kind (standing cross (get_or starts l 0) i) tally tally₁ →
      get_or tally (near_place kind y) 0 + meets P l y < 65536 → get_or tally₁ at 0 < 65535
  shift_fits nears room =
      omega (
        arith,
        ap (λ (j : ℕ). get_or tally₁ j 0) here,
        nears.near_adds kind y leans (turn_within turn),
        pick_true (standing cross (get_or starts l 0) i y) 0 (eq-eqb kind kind refl),
        standing_both turn y,
        standing_less turn y,
        turn_own turn,
      )

  -- it is counted once less
  pub shift_down :
      {tally' : List ℕ} → Nears kind (standing cross (get_or starts l 0) i) tally₁ tally → Raised at 1 tally' tally₁ →
      Nears kind (standing cross (get_or starts l 0) (i + 1)) tally' tally
  shift_down nears raised =
      nears_eq
      (standing cross (get_or starts l 0) (i + 1))
      (λ z. omega (arith, standing-more turn z))
      (nears_join (nears_one raised here (sym raised.long ∙ sym nears.long ∙ long) leans (turn_within turn)) nears)

  -- and can be
  pub shift_some :
      Nears kind (standing cross (get_or starts l 0) i) tally₁ tally →
      meets P l y ≤ get_or tally (near_place kind y) 0 → 1 ≤ get_or tally₁ at 0
  shift_some nears some =
      omega (
        arith,
        ap (λ (j : ℕ). get_or tally₁ j 0) here,
        nears.near_adds kind y leans (turn_within turn),
        pick_true (standing cross (get_or starts l 0) i y) 0 (eq-eqb kind kind refl),
        standing_both turn y,
        standing_less turn y,
        turn_own turn,
      )
