-- A line gets another kind, or another number of untaken nonzeros, in the arrays: what is tied to these stays tied.
-- Assumes nothing.
use mathlib.Core.Bool.{true, false}
use mathlib.Core.List.{List}
use mathlib.Core.Path.{◌≡◌, refl, sym, ◌∙◌, ap, subst}
use Prim.Native.Nat.{ℕ, zero, suc, ◌-◌, ◌≤◌, ◌<◌}
use native.Mathlib.Omega.{arith}
use borrow.Author.Tests.{eqb-true}
use lib.Dec.{eqb}
use lib.ListN.{length, get_or, set}
use lib.Seq.{get_or-set_same, get_or-set_other}
use Rattle.counting.specs.Tests.{pick}
use Rattle.counting.proofs.Joined.{no_way, clash, by_test, pick_true, pick-false}
use Rattle.counting.proofs.Lists.{set-pick}
use Rattle.model.specs.Limits.{line_room}
use Rattle.model.specs.Pattern.{Pattern, lines}
use Rattle.crossing.specs.Crossing.{Laid}
use Rattle.keeping.specs.Kinds.{cells, near, without}
use Rattle.keeping.specs.Tied.{weight_room, Tied, near_place}
use Rattle.keeping.specs.Moves.{near_in, Adds, Leavable, Enterable, Moves, Nears}
use Rattle.keeping.specs.Kept.{meets, Shiftable}
use Rattle.keeping.proofs.Nears.{near_but, near_few}
use Rattle.keeping.proofs.Ties.{without_same, tied_eq, tied_enters, tied_leaves, tied_moves}
use Rattle.keeping.proofs.Rooms.{leaves, enters, near-some, near-room}

near_in_lem :
    (P : Pattern) (kind : ℕ → ℕ) (y first second : ℕ) → first ≡ near P kind 0 y → second ≡ near P kind 1 y →
    (p : ℕ) → p < 2 → near_in first second p ≡ near P kind p y
unfolding near_in pick
near_in_lem P kind y first second e f zero b = e
near_in_lem P kind y first second e f (suc zero) b = f
near_in_lem P kind y first second e f (suc (suc p)) b = no_way (omega arith)

near_in_few : (first second p : ℕ) → first < 65536 → second < 65536 → near_in first second p < 65536
unfolding near_in
near_in_few first second p b c =
    by_test (eqb p 0) (λ e. omega (arith, pick_true first second e)) (λ e. omega (arith, pick-false first second e))

-- line y, with the numbers of its crossing lines of kind 0 and 1
module _ {P : Pattern} {starts cross : List ℕ} (laid : Laid P starts cross) (kinds left : List ℕ) (y first second : ℕ) (line : y < lines P) {tally sums : List ℕ} (first-is : first ≡ get_or tally (near_place 0 y) 0) (second_is : second ≡ get_or tally (near_place 1 y) 0) (tied : Tied P (cells kinds) (cells left) tally sums) where
  near_first : first ≡ near P (cells kinds) 0 y
  near_first = first-is ∙ tied.near_is 0 y (omega arith) line

  near-second : second ≡ near P (cells kinds) 1 y
  near-second = second_is ∙ tied.near_is 1 y (omega arith) line

  few_lines : lines P ≤ line_room
  few_lines = omega (arith, laid.few)

  kind_near : (p : ℕ) → p < 2 → near_in first second p ≡ near P (cells kinds) p y
  kind_near = near_in_lem P (cells kinds) y first second near_first near-second

  -- it can be taken out
  pub turn_leaves :
      Leavable
      (get_or kinds y 0)
      (get_or left y 0)
      (near_in first second (get_or kinds y 0))
      (near_in first second (1 - get_or kinds y 0))
      tally
      sums
  turn_leaves =
      leaves
      laid.inside
      (cells kinds)
      (cells left)
      y
      line
      (kind_near (get_or kinds y 0))
      (λ b. kind_near (1 - get_or kinds y 0) (omega arith))
      tied

  module _ {tally₁ sums₁ : List ℕ} (adds : Adds (get_or kinds y 0) (get_or left y 0) (near_in first second (get_or kinds y 0)) (near_in first second (1 - get_or kinds y 0)) tally₁ sums₁ tally sums) where
    -- and no longer be counted among the crossing lines of its kind
    pub turn_out : Shiftable starts cross tally₁ y (get_or kinds y 0) false
    turn_out =
        record {
          pattern = P;
          laid = laid;
          line = line;
          tally_long = sym adds.tally_long ∙ tied.tally_long;
          room = λ up. clash up refl;
          some = λ down leans z b.
              omega (
                arith,
                adds.near_stays (get_or kinds y 0) z leans (omega (arith, few_lines)),
                near-some laid.inside (cells kinds) (cells left) y line leans tied z b,
              );
        }

    few : (p : ℕ) → near_in first second p < 65536
    few p =
        near_in_few
        first
        second
        p
        (omega (arith, near_first, near_few laid.inside (cells kinds) 0 y, laid.thin y))
        (omega (arith, near-second, near_few laid.inside (cells kinds) 1 y, laid.thin y))

    module _ {tally₂ : List ℕ} (nears : Nears (get_or kinds y 0) (meets P y) tally₂ tally₁) where
      turn_left : Tied P (without y (cells kinds)) (cells left) tally₂ sums₁
      turn_left =
          tied_leaves
          laid.inside
          (cells kinds)
          (cells left)
          y
          line
          few_lines
          (kind_near (get_or kinds y 0))
          (λ b. kind_near (1 - get_or kinds y 0) (omega arith))
          nears
          adds
          tied

      -- it can be counted among the crossing lines of any kind
      pub turn_in : (to : ℕ) → Shiftable starts cross tally₂ y to true
      turn_in to =
          record {
            pattern = P;
            laid = laid;
            line = line;
            tally_long = turn_left.tally_long;
            room = λ up leans. near-room laid (without y (cells kinds)) (cells left) y to leans turn_left;
            some = λ down. clash refl down;
          }

      module _ (to : ℕ) {tally₃ : List ℕ} (nears' : Nears to (meets P y) tally₂ tally₃) where
        -- and be counted again, with that kind
        pub turn_enters :
            Enterable (get_or left y 0) (near_in first second to) (near_in first second (1 - to)) tally₃ sums₁
        turn_enters =
            enters laid (without y (cells kinds)) (cells left) (tied.light y line) (few to) (few (1 - to)) turn_left nears'

        -- then all is tied to the kinds with this one
        pub turned :
            {tally' sums' : List ℕ} → y < length kinds →
            Adds to (get_or left y 0) (near_in first second to) (near_in first second (1 - to)) tally₃ sums₁ tally' sums' →
            Tied P (cells (set kinds y to)) (cells left) tally' sums'
        turned {tally'} {sums'} b more =
            let kinds' = set kinds y to in
            let own : get_or kinds' y 0 ≡ to = get_or-set_same kinds y to 0 b in
            let same : (z : ℕ) → (z ≡ y → ⊥) → get_or kinds z 0 ≡ get_or kinds' z 0 = λ z n. sym (get_or-set_other kinds y z to 0 n) in
            let near' : (p : ℕ) → p < 2 → near_in first second p ≡ near P (cells kinds') p y = λ p c. kind_near p c ∙ near_but laid.inside (cells kinds) (cells kinds') p y same in
            tied_enters
            laid.inside
            (cells kinds')
            (cells left)
            y
            line
            {same = near_in first second (get_or kinds' y 0)}
            {other = near_in first second (1 - get_or kinds' y 0)}
            few_lines
            (near' (get_or kinds' y 0))
            (λ c. near' (1 - get_or kinds' y 0) (omega arith))
            (subst (λ (k : ℕ). Nears k (meets P y) tally₂ tally₃) (sym own) nears')
            (subst (λ (k : ℕ). Adds k (get_or left y 0) (near_in first second k) (near_in first second (1 - k)) tally₃ sums₁ tally' sums') (sym own) more)
            (tied_eq
            laid.inside
            (λ l c. without_same y (cells kinds') (cells kinds) (λ z n. sym (same z n)) l)
            (λ l c. refl)
            turn_left)

-- line y has another number of untaken nonzeros
pub left-moved :
    {P : Pattern} (kind : ℕ → ℕ) (left : List ℕ) (y to : ℕ) {tally sums tally' sums' : List ℕ} →
    y < length left → lines P ≤ line_room → y < lines P → to < weight_room →
    Moves (kind y) (get_or left y 0) to tally sums tally' sums' →
    Tied P kind (cells left) tally sums → Tied P kind (cells (set left y to)) tally' sums'
left-moved {P} kind left y to {tally} {sums} {tally'} {sums'} b few line light moves tied =
    let own : get_or (set left y to) y 0 ≡ to = get_or-set_same left y to 0 b in
    tied_moves
    kind
    (cells left)
    (cells (set left y to))
    y
    few
    line
    (omega (arith, own))
    (λ l n. get_or-set_other left y l to 0 n)
    (subst (λ (x : ℕ). Moves (kind y) (get_or left y 0) x tally sums tally' sums') (sym own) moves)
    tied

-- a number stored at y, known by another name
pub stored :
    (xs ys : List ℕ) (y v w room : ℕ) → ys ≡ set xs y v → v ≡ w → length xs ≡ room →
    (z : ℕ) → z < room → get_or ys z 0 ≡ pick (eqb z y) w (get_or xs z 0)
stored xs ys y v w room e f long z b =
    ap (λ (zs : List ℕ). get_or zs z 0) e
    ∙ set-pick xs y z v (omega arith)
    ∙ ap (λ (x : ℕ). pick (eqb z y) x (get_or xs z 0)) f

-- a number that stands at y already
pub stands :
    (xs : List ℕ) (y w z : ℕ) → get_or xs y 0 ≡ w → get_or xs z 0 ≡ pick (eqb z y) w (get_or xs z 0)
stands xs y w z e =
    by_test
    (eqb z y)
    (λ q. ap (λ (i : ℕ). get_or xs i 0) (eqb-true z y q) ∙ e ∙ sym (pick_true w (get_or xs z 0) q))
    (λ q. sym (pick-false w (get_or xs z 0) q))
