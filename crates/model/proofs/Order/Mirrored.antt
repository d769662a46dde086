-- A split with its parts exchanged has the same volume, and meets the caps exchanged. With equal caps one of the two has a marking that is
-- legal; with unequal caps every split has.
-- Assumes nothing.
use mathlib.Core.Bool.{Bool, true, false, not}
use mathlib.Core.List.{List, [], ◌∷◌}
use mathlib.Core.Path.{◌≡◌, refl, sym, ◌∙◌, ap, ap₂, subst}
use mathlib.Core.Logic.{◌⊎◌, inl, inr, ⊎_elim}
use Prim.Native.Nat.{ℕ, zero, suc, ◌≤◌, ◌<◌}
use native.Mathlib.Omega.{arith}
use lib.Dec.{eqb, ltb}
use borrow.Author.Tests.{eqb-true, not-false}
use Rattle.counting.specs.Tests.{◌and◌, ◌or◌}
use Rattle.counting.specs.Sums.{any}
use Rattle.counting.proofs.Joined.{clash, by_test, and_intro, or_left, or_right, or_fails_left, or_fails_right, and-turned}
use Rattle.counting.proofs.Counted.{count_eq}
use Rattle.model.specs.declared.Part.{Part}
use Rattle.model.specs.declared.Part.TheVariants.{Zero, One}
use Rattle.model.specs.declared.Caps.{Caps}
use Rattle.model.specs.Pattern.{Pattern, Inside, lines, on, nonempty, line_total}
use Rattle.model.specs.Split.{Split, Meets, caps_of, exchanged, unequal, other, same_part, holds, is_cut, volume, load}
use Rattle.model.specs.Marking.{Marking}
use Rattle.model.specs.Walk.{Rules, cuts, gives_part, one_allowed}
use Rattle.model.specs.State.{stack, ones_allowed}
use Rattle.model.proofs.Split.Volume.{volume-is-cuts, nonempty_held}
use Rattle.model.proofs.Walk.Sound.{Full}
use Rattle.model.proofs.Order.Places.{line_at, line_at_lem}
use Rattle.model.proofs.Order.RulesSound.{rules_by}
use Rattle.model.proofs.Order.SplitMarks.{stack-length, stack_marks, mark_of, split_mark, split_mark_small, split_marks, split-valid, split-cuts}

-- a split with its parts exchanged
unfoldable pub mirrored : Split → Split
mirrored σ t = other (σ t)

same_other_way : (p q : Part) → same_part p (other q) ≡ same_part (other p) q
unfolding other
same_other_way Zero Zero = refl
same_other_way Zero One = refl
same_other_way One Zero = refl
same_other_way One One = refl

mirrored-load : (P : Pattern) (σ : Split) (p : Part) → load P (mirrored σ) p ≡ load P σ (other p)
unfolding load mirrored
mirrored-load P σ p =
    count_eq
    (λ t. same_part p (other (σ t)))
    (λ t. same_part (other p) (σ t))
    P.size
    (λ t b. same_other_way p (σ t))

-- equal caps exchanged are the same
equal_exchanged : (caps : Caps) → unequal caps ≡ false → exchanged caps ≡ caps
unfolding exchanged unequal
equal_exchanged caps same =
    let e = eqb-true caps.cap0 caps.cap1 (not-false (eqb caps.cap0 caps.cap1) same) in
    ap₂ caps_of (sym e) e

-- it meets the caps exchanged, since its loads are exchanged
pub mirrored-meets : (P : Pattern) (caps : Caps) (σ : Split) → Meets P caps σ → Meets P (exchanged caps) (mirrored σ)
unfolding other exchanged
mirrored-meets P caps σ meets =
    record {
      zero_fits = omega (arith, mirrored-load P σ Zero, meets.one_fits);
      one_fits = omega (arith, mirrored-load P σ One, meets.zero_fits);
    }

-- a part holds of a line what the other part held
mirrored-holds :
    (P : Pattern) (σ : Split) (p : Part) (l : ℕ) → holds P (mirrored σ) p l ≡ holds P σ (other p) l
unfolding holds mirrored any
mirrored-holds P σ p l =
    ap
    (ltb 0)
    (count_eq
    (λ t. on P l t and same_part p (other (σ t)))
    (λ t. on P l t and same_part (other p) (σ t))
    P.size
    (λ t b. ap (λ (x : Bool). on P l t and x) (same_other_way p (σ t))))

mirrored_cut : (P : Pattern) (σ : Split) (l : ℕ) → is_cut P (mirrored σ) l ≡ is_cut P σ l
unfolding is_cut other
mirrored_cut P σ l =
    ap (λ (x : Bool). x and holds P (mirrored σ) One l) (mirrored-holds P σ Zero l)
    ∙ ap (λ (x : Bool). holds P σ One l and x) (mirrored-holds P σ One l)
    ∙ and-turned (holds P σ One l) (holds P σ Zero l)

-- and has the same volume
pub mirrored-volume : (P : Pattern) (σ : Split) → volume P (mirrored σ) ≡ volume P σ
mirrored-volume P σ =
    volume-is-cuts P (mirrored σ)
    ∙ count_eq (is_cut P (mirrored σ)) (is_cut P σ) (lines P) (λ l b. mirrored_cut P σ l)
    ∙ sym (volume-is-cuts P σ)

-- marks 0 and 1 exchanged
unfoldable pub turned : ℕ → ℕ
turned zero = 1
turned (suc zero) = 0
turned (suc (suc x)) = suc (suc x)

turned_mark : (zero one : Bool) → (zero ≡ true) ⊎ (one ≡ true) → mark_of one zero ≡ turned (mark_of zero one)
unfolding mark_of turned
turned_mark true true h = refl
turned_mark true false h = refl
turned_mark false true h = refl
turned_mark false false h = ⊎_elim (λ e. clash e refl) (λ e. clash e refl) h

-- the mark that an exchanged split gives a line with nonzeros
mirrored_mark :
    (P : Pattern) (σ : Split) (l : ℕ) →
    nonempty P l ≡ true → split_mark P (mirrored σ) l ≡ turned (split_mark P σ l)
unfolding split_mark other
mirrored_mark P σ l h =
    ap (λ (x : Bool). mark_of x (holds P (mirrored σ) One l)) (mirrored-holds P σ Zero l)
    ∙ ap (mark_of (holds P σ One l)) (mirrored-holds P σ One l)
    ∙ turned_mark (holds P σ Zero l) (holds P σ One l) (nonempty_held P σ l h)

-- two stacks with the same marks
pub stack_eq : (f g : ℕ → ℕ) (d : ℕ) → ((i : ℕ) → i < d → f i ≡ g i) → stack f d ≡ stack g d
unfolding stack
stack_eq f g zero h = refl
stack_eq f g (suc d) h =
    ap (◌∷ stack f d) (h d (omega arith)) ∙ ap (g d ∷◌) (stack_eq f g d (λ i b. h i (omega arith)))

mirrored_marks :
    (P : Pattern) (σ : Split) →
    split_marks P (mirrored σ) ≡ stack (λ i. turned (split_mark P σ (line_at P i))) (line_total P)
unfolding split_marks
mirrored_marks P σ =
    stack_eq
    (λ i. split_mark P (mirrored σ) (line_at P i))
    (λ i. turned (split_mark P σ (line_at P i)))
    (line_total P)
    (λ i b. mirrored_mark P σ (line_at P i) (line_at_lem P i b).some)

turned_gives : (x : ℕ) → eqb (turned x) 0 or eqb (turned x) 1 ≡ eqb x 0 or eqb x 1
unfolding turned ◌or◌
turned_gives zero = refl
turned_gives (suc zero) = refl
turned_gives (suc (suc x)) = refl

gives_turned : (f : ℕ → ℕ) (d : ℕ) → gives_part (stack (λ i. turned (f i)) d) ≡ gives_part (stack f d)
unfolding gives_part stack
gives_turned f zero = refl
gives_turned f (suc d) =
    ap (λ (x : Bool). x or gives_part (stack (λ i. turned (f i)) d)) (turned_gives (f d))
    ∙ ap (λ (x : Bool). eqb (f d) 0 or eqb (f d) 1 or x) (gives_turned f d)

gives_none : gives_part [] ≡ false
unfolding gives_part
gives_none = refl

turned-one : (x : ℕ) → x ≡ 1 → eqb (turned x) 1 ≡ false
unfolding turned
turned-one x e = ap (λ (y : ℕ). eqb (turned y) 1) e

-- mark 1 may come first or not
module _ (first : Bool) where
  -- marks without a part are legal as they stand
  ones_without : (τ : List ℕ) → gives_part τ ≡ false → ones_allowed first τ ≡ true
  unfolding gives_part ones_allowed
  ones_without [] h = refl
  ones_without (x ∷ τ) h =
      let parts = or_fails_left (eqb x 0 or eqb x 1) (gives_part τ) h in
      and_intro
      (or_left (one_allowed first τ) (ap not (or_fails_right (eqb x 0) (eqb x 1) parts)))
      (ones_without τ (or_fails_right (eqb x 0 or eqb x 1) (gives_part τ) h))

  -- behind a part every mark is allowed
  ones_behind : (x : ℕ) (τ : List ℕ) → gives_part τ ≡ true → ones_allowed first τ ≡ true → ones_allowed first (x ∷ τ) ≡ true
  unfolding ones_allowed one_allowed
  ones_behind x τ h s = and_intro (or_right (not (eqb x 1)) (or_right first h)) s

  -- a mark other than 1 is allowed everywhere
  ones_other : (x : ℕ) (τ : List ℕ) → eqb x 1 ≡ false → ones_allowed first τ ≡ true → ones_allowed first (x ∷ τ) ≡ true
  unfolding ones_allowed
  ones_other x τ h s = and_intro (or_left (one_allowed first τ) (ap not h)) s

  -- some marks, or the same with 0 and 1 exchanged, have mark 1 only where it is allowed
  pub ones_either :
      (f : ℕ → ℕ) (d : ℕ) →
      (ones_allowed first (stack f d) ≡ true) ⊎ (ones_allowed first (stack (λ i. turned (f i)) d) ≡ true)
  unfolding stack
  ones_either f zero = inl (ones_without [] gives_none)
  ones_either f (suc d) =
      by_test
      (gives_part (stack f d))
      (λ part. ⊎_elim
      (λ s. inl (ones_behind (f d) (stack f d) part s))
      (λ s. inr (ones_behind (turned (f d)) (stack (λ i. turned (f i)) d) (gives_turned f d ∙ part) s))
      (ones_either f d))
      (λ none. by_test
      (eqb (f d) 1)
      (λ one. inr (ones_other
      (turned (f d))
      (stack (λ i. turned (f i)) d)
      (turned-one (f d) (eqb-true (f d) 1 one))
      (ones_without (stack (λ i. turned (f i)) d) (gives_turned f d ∙ none))))
      (λ more. inl (ones_other (f d) (stack f d) more (ones_without (stack f d) none))))

-- where mark 1 may come first, all marks are allowed
ones_everywhere : (τ : List ℕ) → ones_allowed true τ ≡ true
unfolding ones_allowed one_allowed ◌or◌
ones_everywhere [] = refl
ones_everywhere (x ∷ τ) = and_intro (or_right (not (eqb x 1)) refl) (ones_everywhere τ)

-- a marking of a split that meets the caps is full if its marks are allowed
split_full :
    (P : Pattern) (caps : Caps) (β γ : Marking → ℕ) (σ : Split) → Inside P → Meets P caps σ →
    ones_allowed (unequal caps) (split_marks P σ) ≡ true → Full (rules_by P caps β γ) (split_marks P σ)
unfolding rules_by split_marks
split_full P caps β γ σ i meets s =
    record {
      long = stack-length (λ j. split_mark P σ (line_at P j)) (line_total P);
      marks = stack_marks (λ j. split_mark P σ (line_at P j)) (line_total P) (λ j. split_mark_small P σ (line_at P j));
      allowed = s;
      fits = split-valid P caps σ i meets;
    }

-- for every split that meets the caps there is a full marking that cuts no more lines
pub record Marked (R : Rules) (most : ℕ) : Type 0 where
  pub marks : List ℕ
  pub full : Full R marks
  pub few : cuts marks ≤ most

pub split_marked :
    (P : Pattern) (caps : Caps) (β γ : Marking → ℕ) (σ : Split) →
    Inside P → Meets P caps σ → Marked (rules_by P caps β γ) (volume P σ)
unfolding split_marks
split_marked P caps β γ σ i meets =
    by_test
    (unequal caps)
    (λ apart. as_it_is (ap (λ (first : Bool). ones_allowed first (split_marks P σ)) apart ∙ ones_everywhere (split_marks P σ)))
    (λ same. ⊎_elim
    as_it_is
    (λ s. record {
      marks = split_marks P (mirrored σ);
      full = split_full P caps β γ (mirrored σ) i (turned-meets same) (ap (ones_allowed (unequal caps)) (mirrored_marks P σ) ∙ s);
      few = omega (arith, split-cuts P (mirrored σ), mirrored-volume P σ);
    })
    (ones_either (unequal caps) (λ j. split_mark P σ (line_at P j)) (line_total P)))
  where
    as_it_is : ones_allowed (unequal caps) (split_marks P σ) ≡ true → Marked (rules_by P caps β γ) (volume P σ)
    as_it_is s = record { marks = split_marks P σ; full = split_full P caps β γ σ i meets s; few = split-cuts P σ }

    turned-meets : unequal caps ≡ false → Meets P caps (mirrored σ)
    turned-meets same = subst (λ (c : Caps). Meets P c (mirrored σ)) (equal_exchanged caps same) (mirrored-meets P caps σ meets)
