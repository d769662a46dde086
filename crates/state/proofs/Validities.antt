-- Which markings of a search are valid: a trail's proper beginnings by its longest, and a trail by its cleared marks.
-- Assumes nothing.
use mathlib.Core.Bool.{Bool, true}
use mathlib.Core.List.{List, [], ◌∷◌}
use mathlib.Core.Path.{◌≡◌, refl, sym, ◌∙◌, ap}
use Prim.Native.Nat.{ℕ, suc, ◌+◌, ◌-◌, ◌≤◌, ◌<◌}
use native.Mathlib.Omega.{arith}
use lib.ListN.{length, get_or}
use Rattle.counting.specs.Tests.{◌and◌}
use Rattle.counting.proofs.Joined.{both_ways, and_intro, and_left}
use Rattle.trail.specs.declared.Trail.{Trail}
use Rattle.trail.specs.Trail.{mark_room, dropped}
use Rattle.trail.proofs.Methods.{dropped-length}
use Rattle.model.specs.Limits.{line_room}
use Rattle.model.specs.declared.Caps.{Caps}
use Rattle.model.specs.declared.Search.{Search}
use Rattle.model.specs.Pattern.{Pattern, Inside, pattern_of}
use Rattle.model.specs.Split.{unequal}
use Rattle.model.specs.Marking.{marking, valid}
use Rattle.model.specs.Walk.{rules_of}
use Rattle.model.specs.State.{marks_in, best_in, caps_in, record_of, beginnings_valid, trail_fine, best_fine, state_fine}
use Rattle.model.proofs.Walk.Sound.{whole, longer}
use Rattle.model.proofs.Alike.Marks.{valid_same}
use Rattle.model.proofs.Bound.Extended.{valid_begins}
use Rattle.model.proofs.Order.Marks.{begins_extends}
use Rattle.model.proofs.Theorems.OfList.{rules_k, rules-first, rules-valid}
use Rattle.pattern.specs.Room.{within}
use Rattle.marking.proofs.Trails.{marks_dropped}
use Rattle.marking.specs.Marks.{mark_for}
use Rattle.weighing.specs.declared.taking.Taken.{Taken}
use Rattle.weighing.specs.Cells.{marking_in}
use Rattle.weighing.specs.Taking.{TakenOf, valid_by}
use Rattle.weighing.proofs.Taken.{valid-by}
use Rattle.bound.specs.Evaluated.{Placed}
use Rattle.bound.proofs.Evaluations.{listed_few}
use Rattle.state.specs.Holding.{cleared_to}
use Rattle.state.specs.StateBy.{trail_by, best_by, numbers_by}
use Rattle.state.specs.Ready.{Ready}
use Rattle.state.proofs.ByLine.{cleared_alike}
use Rattle.state.proofs.StateLaws.{trail_is, best_is, state_is}

-- a beginning of a valid marking is valid
inherits : (P : Pattern) (caps : Caps) (x : ℕ) (τ : List ℕ) → Inside P → (rules_of P caps).valid (x ∷ τ) ≡ true → (rules_of P caps).valid τ ≡ true
unfolding rules_of
inherits P caps x τ i h = valid_begins P caps (marking P τ) (marking P (x ∷ τ)) i (begins_extends P (longer whole)) h

-- all beginnings of a valid marking are valid
all_valid : (P : Pattern) (caps : Caps) (τ : List ℕ) → Inside P → (rules_of P caps).valid τ ≡ true → beginnings_valid (rules_of P caps) τ ≡ true
unfolding beginnings_valid
all_valid P caps [] i h = refl
all_valid P caps (x ∷ τ) i h = let v = inherits P caps x τ i h in and_intro v (all_valid P caps τ i v)

-- so the longest proper beginning speaks for all
longest_speaks :
    (P : Pattern) (caps : Caps) (x : ℕ) (τ : List ℕ) → Inside P →
    (rules_of P caps).valid τ ≡ beginnings_valid (rules_of P caps) (x ∷ τ)
unfolding beginnings_valid
longest_speaks P caps x τ i =
    both_ways
    ((rules_of P caps).valid τ)
    ((rules_of P caps).valid τ and beginnings_valid (rules_of P caps) τ)
    (λ h. and_intro h (all_valid P caps τ i h))
    (λ h. and_left ((rules_of P caps).valid τ) (beginnings_valid (rules_of P caps) τ) h)

-- of a trail too, without its last mark
pub trail_speaks :
    (P : Pattern) (caps : Caps) (trail : Trail) (d : ℕ) (v : Bool) → Inside P → trail.len ≡ suc d → d < mark_room →
    v ≡ valid P caps (marking P (marks_in (dropped trail))) → v ≡ beginnings_valid (rules_of P caps) (marks_in trail)
unfolding rules_of
trail_speaks P caps trail d v i long b e =
    e
    ∙ longest_speaks P caps (get_or trail.marks d 0) (marks_in (dropped trail)) i
    ∙ ap (beginnings_valid (rules_of P caps)) (sym (marks_dropped trail d long b))

-- the test of validity, on what the marks by line of a cleared trail take, is validity of the marking that the trail holds
pub valid_cleared :
    (m n nonzeros : ℕ) (list places entries : List ℕ) (total : ℕ) (caps : Caps) (trail kept : Trail) (r : Taken) (v : Bool) →
    kept ≡ cleared_to trail → total ≡ within (m + n) →
    (length entries ≡ line_room) × ((l : ℕ) → l < line_room → get_or entries l 0 ≡ mark_for total places kept.marks kept.len l) →
    TakenOf (pattern_of m n nonzeros list) (marking_in entries) r → v ≡ valid_by r caps →
    m + n ≤ line_room → Inside (pattern_of m n nonzeros list) → Placed (pattern_of m n nonzeros list) places → trail.len ≤ mark_room →
    v ≡ valid (pattern_of m n nonzeros list) caps (marking (pattern_of m n nonzeros list) (marks_in trail))
valid_cleared m n nonzeros list places entries total caps trail kept r v clears all marked takes e few inside placed short =
    e
    ∙ valid-by caps takes
    ∙ valid_same (cleared_alike m n nonzeros list places entries total trail kept clears all marked few inside placed short) caps

-- what the code has of a state check
pub record Checked (m n nonzeros : ℕ) (list places : List ℕ) (k : ℕ) (s : Search) (beginning : Trail) (begins full numbers trail best : Bool) : Type 0 where
  pub short : beginning ≡ dropped s.trail
  pub begins_is :
      m + n ≤ line_room → Inside (pattern_of m n nonzeros list) → Placed (pattern_of m n nonzeros list) places → beginning.len ≤ mark_room →
      begins ≡ valid (pattern_of m n nonzeros list) (caps_in s) (marking (pattern_of m n nonzeros list) (marks_in beginning))
  pub full_is :
      m + n ≤ line_room → Inside (pattern_of m n nonzeros list) → Placed (pattern_of m n nonzeros list) places → s.best.len ≤ mark_room →
      full ≡ valid (pattern_of m n nonzeros list) (caps_in s) (marking (pattern_of m n nonzeros list) (marks_in s.best))
  pub numbers_are : numbers ≡ numbers_by s m n nonzeros
  pub trail_test : trail ≡ trail_by s.complete s.trail k begins (unequal (caps_in s))
  pub best_test : best ≡ best_by s k full

-- it is the state check of document 01
pub checked_is :
    (m n nonzeros : ℕ) (list places starts : List ℕ) (k : ℕ) (s : Search) (beginning : Trail) (begins full numbers trail best : Bool) →
    Checked m n nonzeros list places k s beginning begins full numbers trail best →
    Ready m n nonzeros list places starts k →
    numbers and trail and best ≡ state_fine (rules_of (pattern_of m n nonzeros list) (caps_in s)) m n nonzeros (record_of s)
checked_is m n nonzeros list places starts k s beginning begins full numbers trail best c ready =
    ap (λ (x : Bool). x and trail and best) c.numbers_are
    ∙ state_is (rules_of P (caps_in s)) m n nonzeros s trail best trail_fine_lem best_fine_lem
  where
    P : Pattern
    P = pattern_of m n nonzeros list

    k_is : (rules_of P (caps_in s)).k ≡ k
    k_is = rules_k P (caps_in s) ∙ sym ready.total

    few : (rules_of P (caps_in s)).k ≤ mark_room
    few = omega (arith, k_is, ready.few)

    trail_fine_lem : trail ≡ trail_fine (rules_of P (caps_in s)) s.complete (marks_in s.trail)
    trail_fine_lem =
        c.trail_test
        ∙ ap (λ (j : ℕ). trail_by s.complete s.trail j begins (unequal (caps_in s))) (sym k_is)
        ∙ ap (λ (first : Bool). trail_by s.complete s.trail (rules_of P (caps_in s)).k begins first) (sym (rules-first P (caps_in s)))
        ∙ trail_is
        (rules_of P (caps_in s))
        s.complete
        s.trail
        begins
        few
        (λ some short.
        let d = s.trail.len - 1 in
        let long : s.trail.len ≡ suc d = omega arith in
        let inside : d < mark_room = omega (arith, few) in
        trail_speaks
        P
        (caps_in s)
        s.trail
        d
        begins
        ready.listed.inside
        long
        inside
        (c.begins_is (listed_few ready.listed) ready.listed.inside ready.placed (omega (arith, ap (λ (t : Trail). t.len) c.short, dropped-length s.trail d long inside))
        ∙ ap (λ (t : Trail). valid P (caps_in s) (marking P (marks_in t))) c.short))

    best_fine_lem : best ≡ best_fine (rules_of P (caps_in s)) (best_in s.found s.best) s.best_count s.complete
    best_fine_lem =
        c.best_test
        ∙ ap (λ (j : ℕ). best_by s j full) (sym k_is)
        ∙ best_is
        (rules_of P (caps_in s))
        s
        full
        few
        (λ found long. c.full_is (listed_few ready.listed) ready.listed.inside ready.placed (omega (arith, long, few)) ∙ rules-valid P (caps_in s) (marks_in s.best))
