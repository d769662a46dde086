-- Laws of a trail that advances: the mark that a last mark becomes, and the marks cut that are dropped on the way.
-- Assumes nothing.
use mathlib.Core.Bool.{Bool, true, false}
use mathlib.Core.List.{List, [], ◌∷◌}
use mathlib.Core.Path.{◌≡◌, refl, sym, ◌∙◌, ap, subst}
use Prim.Native.Nat.{ℕ, zero, suc, ◌+◌, ◌*◌, ◌/◌, ◌%◌, ◌≤◌, ◌<◌}
use native.Mathlib.Omega.{arith}
use lib.Dec.{eqb, ltb}
use borrow.Author.Tests.{lt-ltb, le-ltb, eq-eqb, ne_eqb, ltb-true, ltb-false}
use Rattle.counting.specs.Tests.{◌or◌, pick, bit}
use Rattle.counting.proofs.Joined.{no_way, clash, by_test, and_left, and_right, and-other, or_left, or_right, or_eq, or_fails, facts}
use Rattle.trail.specs.Trail.{is_part}
use Rattle.model.specs.Walk.{gives_part, one_allowed, after_zero, advance}
use Rattle.packing.specs.declared.PackedTrail.{PackedTrail}
use Rattle.packing.specs.Packed.{next_mark, parts_in, earlier, last_of, ends_cut, Packs}
use Rattle.packing.proofs.Packing.{packed_with, last_read, packs_replace}

-- what a last mark becomes
pub next-zero : (x : ℕ) (allowed : Bool) → x ≡ 0 → allowed ≡ true → next_mark x allowed ≡ 1
unfolding next_mark
next-zero zero true e h = refl
next-zero zero false e h = clash h refl
next-zero (suc x) allowed e h = no_way (omega arith)

pub next_denied : (x : ℕ) (allowed : Bool) → allowed ≡ false → next_mark x allowed ≡ 2
unfolding next_mark
next_denied zero true h = clash refl h
next_denied zero false h = refl
next_denied (suc x) allowed h = refl

pub next-other : (x : ℕ) (allowed : Bool) → (x ≡ 0 → ⊥) → next_mark x allowed ≡ 2
unfolding next_mark
next-other zero allowed h = absurd (h refl)
next-other (suc x) allowed h = refl

pub ruleset nexts = (next-zero, next_denied, next-other)

-- what a last mark becomes is a mark
pub next_small : (x : ℕ) (allowed : Bool) → next_mark x allowed ≤ 2
unfolding next_mark
next_small zero true = omega arith
next_small zero false = omega arith
next_small (suc x) allowed = omega arith

-- a mark 0 or 1, as the walk tests it
part_test : (x : ℕ) → (eqb x 0 or eqb x 1) ≡ is_part x
part_test x =
    by_test
    (ltb x 2)
    (λ yes. by_test
    (eqb x 0)
    (λ e. or_left (eqb x 1) e)
    (λ e. or_right (eqb x 0) (eq-eqb x 1 (omega (facts, yes, e))))
    ∙ sym yes)
    (λ no. or_fails (ne_eqb x 0 (λ e. omega (facts, no))) (ne_eqb x 1 (λ e. omega (facts, no))) ∙ sym no)

-- one test or another that fails
pub or_none : (a : Bool) {b : Bool} → b ≡ false → a or b ≡ a
unfolding ◌or◌
or_none true h = refl
or_none false h = h

-- one of two numbers is not 0
some_first : (part : Bool) (n : ℕ) → (part or ltb 0 n) ≡ ltb 0 (bit part + n)
unfolding bit ◌or◌
some_first true n = sym (lt-ltb 0 (1 + n) (omega arith))
some_first false n =
    let none : n ≡ 0 + n = omega arith in
    ap (ltb 0) none

-- some mark is 0 or 1 if their count is not 0
gives_counted : (τ : List ℕ) → gives_part τ ≡ ltb 0 (parts_in τ)
unfolding gives_part parts_in
gives_counted [] = sym (le-ltb 0 0 (omega arith))
gives_counted (x ∷ τ) = or_eq (part_test x) (gives_counted τ) ∙ some_first (is_part x) (parts_in τ)

-- the mark that a last mark 0 becomes
next_picked : (allowed : Bool) → pick allowed 1 2 ≡ next_mark 0 allowed
unfolding pick next_mark
next_picked true = refl
next_picked false = refl

-- a last mark that is not cut advances
advance_last :
    (first : Bool) (x : ℕ) (τ : List ℕ) → x < 2 → advance first (x ∷ τ) ≡ next_mark x (first or ltb 0 (parts_in τ)) ∷ τ
unfolding advance after_zero one_allowed next_mark
advance_last first zero τ b =
    ap (λ (some : Bool). pick (first or some) 1 2 ∷ τ) (gives_counted τ)
    ∙ ap (◌∷ τ) (next_picked (first or ltb 0 (parts_in τ)))
advance_last first (suc zero) τ b = refl
advance_last first (suc (suc x)) τ b = no_way (omega arith)

advance-none : (first : Bool) → advance first [] ≡ []
unfolding advance
advance-none first = refl

-- a last mark cut is dropped
advance_cut : (first : Bool) (x : ℕ) (τ : List ℕ) → 1 < x → advance first (x ∷ τ) ≡ advance first τ
unfolding advance
advance_cut first zero τ b = no_way (omega arith)
advance_cut first (suc zero) τ b = no_way (omega arith)
advance_cut first (suc (suc x)) τ b = refl

-- a trail with its last mark advanced
pub packs_raise :
    (first allowed : Bool) (t : PackedTrail) (mark x : ℕ) (τ : List ℕ) → Packs t (x ∷ τ) → x < 2 → allowed ≡ (first or ltb 0 t.parts) →
    mark ≡ next_mark (t.top % 4) allowed →
    Packs (packed_with t.words (t.top / 4 * 4 + mark) t.len t.parts) (advance first (x ∷ τ))
unfolding last_of earlier
packs_raise first allowed t mark x τ p b a m =
    let next : mark ≡ next_mark x (first or ltb 0 (parts_in τ)) =
    m ∙ ap (λ (y : ℕ). next_mark y allowed) p.ends
    ∙ ap (next_mark x) (a ∙ ap (λ (n : ℕ). first or ltb 0 n) p.counted) in
    rw (advance_last first x τ b, ← next) (packs_replace t x mark τ p (rw m (next_small (t.top % 4) allowed)))

-- a trail on the way: its marks advance to what those of another become
pub record Leads (first : Bool) (t : PackedTrail) (τ : List ℕ) : Type 0 where
  pub rest : List ℕ
  pub packs : Packs t rest
  pub same : advance first rest ≡ advance first τ

pub leads_first : (first : Bool) (t : PackedTrail) (τ : List ℕ) → Packs t τ → Leads first t τ
leads_first first t τ p = record { rest = τ; packs = p; same = refl }

-- a mark cut at the end goes
pub leads_less :
    (first : Bool) (t r : PackedTrail) (τ : List ℕ) → Leads first t τ → ends_cut t ≡ true →
    ((x : ℕ) (ρ : List ℕ) → Packs t (x ∷ ρ) → Packs r ρ) → Leads first r τ
leads_less first t r τ l cut drops = by_marks l.rest l.packs l.same
  where
    by_marks : (ρ : List ℕ) → Packs t ρ → advance first ρ ≡ advance first τ → Leads first r τ
    by_marks [] p e =
        no_way (omega (arith, p.long, ltb-true 0 t.len (and_left (ltb 0 t.len) (ltb 1 (t.top % 4)) cut)))
    by_marks (x ∷ ρ) p e =
        let past : 1 < x =
        omega (arith, last_read p, ltb-true 1 (t.top % 4) (and_right (ltb 0 t.len) (ltb 1 (t.top % 4)) cut)) in
        record { rest = ρ; packs = drops x ρ p; same = sym (advance_cut first x ρ past) ∙ e }

-- with no marks left there are none
pub leads_none :
    (first : Bool) (t : PackedTrail) (τ : List ℕ) → Leads first t τ → t.len ≡ 0 → Packs t (advance first τ)
leads_none first t τ l none = by_marks l.rest l.packs l.same
  where
    by_marks : (ρ : List ℕ) → Packs t ρ → advance first ρ ≡ advance first τ → Packs t (advance first τ)
    by_marks [] p e = subst (Packs t) (sym (advance-none first) ∙ e) p
    by_marks (x ∷ ρ) p e = no_way (omega (arith, p.long))

-- a last mark that is not cut is advanced
pub leads_raise :
    (first : Bool) (t r : PackedTrail) (τ : List ℕ) → Leads first t τ → (t.len ≡ 0 → ⊥) → ends_cut t ≡ false →
    ((x : ℕ) (ρ : List ℕ) → Packs t (x ∷ ρ) → x < 2 → Packs r (advance first (x ∷ ρ))) → Packs r (advance first τ)
leads_raise first t r τ l some uncut raises = by_marks l.rest l.packs l.same
  where
    by_marks : (ρ : List ℕ) → Packs t ρ → advance first ρ ≡ advance first τ → Packs r (advance first τ)
    by_marks [] p e = absurd (some p.long)
    by_marks (x ∷ ρ) p e =
        let low = and-other (ltb 0 t.len) (ltb 1 (t.top % 4)) uncut (lt-ltb 0 t.len (omega (arith, p.long))) in
        subst (Packs r) e (raises x ρ p (omega (arith, last_read p, ltb-false 1 (t.top % 4) low)))
