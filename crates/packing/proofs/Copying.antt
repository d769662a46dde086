-- Laws of a trail of bytes that is packed mark by mark, and of a packed trail whose marks are stored from the last place down.
-- Assumes nothing.
use mathlib.Core.Bool.{true}
use mathlib.Core.List.{List, [], ◌∷◌}
use mathlib.Core.Path.{◌≡◌, refl, ◌∙◌, ap, subst}
use Prim.Native.Nat.{ℕ, ◌+◌, ◌-◌, ◌≤◌, ◌<◌}
use native.Mathlib.Numerals.{add-one}
use native.Mathlib.Omega.{arith}
use lib.Dec.{eqb}
use lib.ListN.{length, get_or, set}
use lib.Seq.{set_comm}
use borrow.Author.Tests.{eqb-true, eqb-false}
use Rattle.counting.proofs.Joined.{no_way, by_test}
use Rattle.trail.specs.Trail.{mark_room, trail_with}
use Rattle.trail.specs.declared.Trail.{Trail}
use Rattle.model.specs.State.{stack, are_marks, array_of, trail_of}
use Rattle.model.proofs.Order.SplitMarks.{stack-length}
use Rattle.model.proofs.State.Arrays.{array_last, array_before, array_stack}
use Rattle.packing.specs.declared.PackedTrail.{PackedTrail}
use Rattle.packing.specs.Packed.{Packs}
use Rattle.packing.proofs.Packing.{marks_first, marks_rest}

-- an array with some marks stored in it
unfoldable pub stored_in : List ℕ → List ℕ → List ℕ
stored_in array [] = array
stored_in array (x ∷ τ) = set (stored_in array τ) (length τ) x

-- the array of a marking has its marks stored in one of zeros
stored_all : (τ : List ℕ) → stored_in (array_of []) τ ≡ array_of τ
unfolding stored_in array_of
stored_all [] = refl
stored_all (x ∷ τ) = ap (λ (array : List ℕ). set array (length τ) x) (stored_all τ)

-- a mark past them may be stored first
stored_past : (array τ : List ℕ) (i v : ℕ) → length τ ≤ i → stored_in (set array i v) τ ≡ set (stored_in array τ) i v
unfolding stored_in
stored_past array [] i v b = refl
stored_past array (x ∷ τ) i v b =
    ap (λ (a : List ℕ). set a (length τ) x) (stored_past array τ i v (omega arith))
    ∙ set_comm (stored_in array τ) i (length τ) v x (λ e. no_way (omega arith))

-- a trail on the way, and an array: the marks that are left, stored, make the array of all
pub record Stores (t : PackedTrail) (array τ : List ℕ) : Type 0 where
  pub rest : List ℕ
  pub packs : Packs t rest
  pub stored : stored_in array rest ≡ array_of τ

pub stores_first : (t : PackedTrail) (array τ : List ℕ) → Packs t τ → array ≡ array_of [] → Stores t array τ
stores_first t array τ p e =
    record { rest = τ; packs = p; stored = ap (λ (a : List ℕ). stored_in a τ) e ∙ stored_all τ }

-- the last mark is stored and dropped
pub stores_less :
    (t r : PackedTrail) (array τ : List ℕ) (mark : ℕ) → Stores t array τ → 0 < t.len → ((x : ℕ) (ρ : List ℕ) → Packs t (x ∷ ρ) → mark ≡ x) →
    ((x : ℕ) (ρ : List ℕ) → Packs t (x ∷ ρ) → Packs r ρ) → Stores r (set array (t.len - 1) mark) τ
unfolding stored_in
stores_less t r array τ mark s some last drops = by_marks s.rest s.packs s.stored
  where
    by_marks : (ρ : List ℕ) → Packs t ρ → stored_in array ρ ≡ array_of τ → Stores r (set array (t.len - 1) mark) τ
    by_marks [] p e = no_way (omega (arith, p.long))
    by_marks (x ∷ ρ) p e =
        let at : t.len - 1 ≡ length ρ = omega (arith, p.long) in
        record {
          rest = ρ;
          packs = drops x ρ p;
          stored =
              ap (λ (i : ℕ). stored_in (set array i mark) ρ) at
              ∙ ap (λ (v : ℕ). stored_in (set array (length ρ) v) ρ) (last x ρ p)
              ∙ stored_past array ρ (length ρ) x (omega arith)
              ∙ e;
        }

-- with no marks left the array is that of all
pub stores_none :
    (t : PackedTrail) (array τ : List ℕ) (len : ℕ) → Stores t array τ → t.len ≡ 0 → len ≡ length τ → trail_with array len ≡ trail_of τ
unfolding stored_in trail_of
stores_none t array τ len s none long = by_marks s.rest s.packs s.stored
  where
    by_marks : (ρ : List ℕ) → Packs t ρ → stored_in array ρ ≡ array_of τ → trail_with array len ≡ trail_of τ
    by_marks [] p e = λ i. record { marks = e i; len = long i }
    by_marks (x ∷ ρ) p e = no_way (omega (arith, p.long))

-- the first marks of an array
abbrev pub first_marks : List ℕ → ℕ → List ℕ
first_marks array i = stack (λ j. get_or array j 0) i

-- so many numbers of an array are marks
abbrev pub MarksTo : List ℕ → ℕ → Type 0
MarksTo array len = (j : ℕ) → j < len → get_or array j 0 ≤ 2

-- no marks are packed
pub packed_none : (t : PackedTrail) (array : List ℕ) → Packs t [] → Packs t (first_marks array 0)
unfolding stack
packed_none t array p = p

-- one mark more
pub packed_more :
    (t r : PackedTrail) (array : List ℕ) (i : ℕ) → Packs t (first_marks array i) → i < mark_room → get_or array i 0 ≤ 2 →
    ((τ : List ℕ) → Packs t τ → length τ < mark_room → get_or array i 0 ≤ 2 → Packs r (get_or array i 0 ∷ τ)) →
    Packs r (first_marks array (i + 1))
unfolding stack
packed_more t r array i p b m appends =
    rw (add-one i) (appends (first_marks array i) p (omega (arith, stack-length (λ j. get_or array j 0) i)) m)

-- the numbers of a marking's array are marks
array_marks : (τ : List ℕ) → length τ ≤ mark_room → are_marks τ ≡ true → MarksTo (array_of τ) (length τ)
array_marks [] b h j l = no_way (omega arith)
array_marks (x ∷ τ) b h j l =
    by_test
    (eqb j (length τ))
    (λ e. omega (arith, ap (λ (i : ℕ). get_or (array_of (x ∷ τ)) i 0) (eqb-true j (length τ) e), array_last x τ (omega arith), marks_first x τ h))
    (λ e. let before : j < length τ = omega (arith, eqb-false j (length τ) e) in
    omega (arith, array_before x τ j before, array_marks τ (omega arith) (marks_rest x τ h) j before))

-- all marks of a trail
pub packed_all :
    (t : PackedTrail) (trail : Trail) (i : ℕ) (τ : List ℕ) → (MarksTo trail.marks trail.len → Packs t (first_marks trail.marks i)) →
    i ≡ trail.len → length τ ≤ mark_room → are_marks τ ≡ true → trail ≡ trail_of τ → Packs t τ
unfolding trail_of
packed_all t trail i τ packs e b h same =
    let array : trail.marks ≡ array_of τ = ap (λ (x : Trail). x.marks) same in
    let long : trail.len ≡ length τ = ap (λ (x : Trail). x.len) same in
    subst
    (Packs t)
    (ap (λ (a : List ℕ). first_marks a i) array ∙ ap (first_marks (array_of τ)) (e ∙ long) ∙ array_stack τ b)
    (packs
    (λ j l. omega (arith, ap (λ (a : List ℕ). get_or a j 0) array, array_marks τ b h j (omega arith))))
