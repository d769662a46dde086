-- Counts that go up or down: laws of both ways.
-- Assumes nothing.
use mathlib.Core.Bool.{Bool, true, false, not}
use mathlib.Core.List.{List}
use mathlib.Core.Path.{◌≡◌, refl, sym, ◌∙◌, ap, subst}
use Prim.Native.Nat.{ℕ, ◌+◌, ◌-◌, ◌*◌, ◌≤◌, ◌<◌}
use native.Mathlib.Omega.{arith}
use borrow.Author.Tests.{eqb-true, eqb-false}
use lib.Dec.{eqb}
use lib.ListN.{length, get_or, set, length-set}
use lib.Seq.{get_or-set_same, get_or-set_other}
use Rattle.counting.proofs.Joined.{no_way, by_test, pick_true, pick-false}
use Rattle.model.specs.Pattern.{Pattern, lines}
use Rattle.crossing.specs.Crossing.{Laid}
use Rattle.model.specs.Limits.{line_room}
use Rattle.keeping.specs.Kinds.{cells}
use Rattle.keeping.specs.Tied.{Tied, weight_room, tally_place, near_place, tally_room, both_place, torn_place, conflicts_place}
use Rattle.keeping.specs.Moves.{Raised, Nears, Adds, Moves, Movable}
use Rattle.keeping.specs.Kept.{meets, Shiftable}
use Rattle.keeping.proofs.Raises.{raised_by-store, raised_else, adds_leaning, adds_torn}
use Rattle.keeping.proofs.Standing.{standing, Turn, turn_line}
use Rattle.keeping.proofs.Shifts.{nears_nothing, nears_start, nears_end, shift_up, shift_fits, shift_down, shift_some}
use Rattle.running.specs.Ways.{Way, Changeable, Addable, Added, moved, Countable}

-- a list keeps its length, and every other place
pub way_long : (up : Bool) (i v : ℕ) (xs ys : List ℕ) → Way up (Raised i v) xs ys → length ys ≡ length xs
way_long true i v xs ys r = r.long
way_long false i v xs ys r = sym r.long

pub way_else :
    (up : Bool) (i v : ℕ) (xs ys : List ℕ) → Way up (Raised i v) xs ys → (j : ℕ) → (j ≡ i → ⊥) → j < length xs →
    get_or xs j 0 ≡ get_or ys j 0
way_else true i v xs ys r j n b = sym (raised_else r j n b)
way_else false i v xs ys r j n b = raised_else r j n (omega (arith, r.long))

-- a number that can be changed, known by another name
pub changeable_as : (up : Bool) (limit v x y : ℕ) → x ≡ y → Changeable up limit v x → Changeable up limit v y
changeable_as true limit v x y e h = omega (arith, e)
changeable_as false limit v x y e h = omega (arith, e)

-- what is asked of a line that is counted, or no longer counted
pub record Asked (up : Bool) (p own same other : ℕ) (tally sums : List ℕ) : Type 0 where
  pub tally_long : length tally ≡ tally_room
  pub sums_long : length sums ≡ 6
  pub light : own < weight_room
  pub line : p < 2 → Changeable up 65536 1 (get_or tally (tally_place p own) 0)
  pub own_room : p < 2 → Changeable up 4294967296 own (get_or sums p 0)
  pub same_room : p < 2 → Changeable up 4294967296 same (get_or sums (both_place p) 0)
  pub torn : p ≡ 3 → Changeable up 4294967296 1 (get_or sums torn_place 0)
  pub other_room : p < 2 → Changeable up 4294967296 other (get_or sums conflicts_place 0)

pub asked :
    (up : Bool) (p own same other : ℕ) (tally sums : List ℕ) → Addable up p own same other tally sums →
    Asked up p own same other tally sums
asked true p own same other tally sums k =
    record {
      tally_long = k.tally_long;
      sums_long = k.sums_long;
      light = k.light;
      line = λ b. omega (arith, k.tally-room p own b k.light);
      own_room = λ b. omega (arith, k.light, k.sums_room p (omega (arith, b)));
      same_room = λ b. omega (arith, k.same_few, k.sums_room (both_place p) (omega (arith, b)));
      torn = λ e. omega (arith, k.sums_room 4 (omega arith));
      other_room = λ b. omega (arith, k.other_few, k.sums_room 5 (omega arith));
    }
asked false p own same other tally sums k =
    record {
      tally_long = k.tally_long;
      sums_long = k.sums_long;
      light = k.light;
      line = k.tally_some;
      own_room = k.left_some;
      same_room = k.both_some;
      torn = k.torn_some;
      other_room = k.conflicts_some;
    }

-- a torn line, and one that is neither torn nor leans
pub added-torn :
    (up : Bool) (own same other : ℕ) (tally sums sums' : List ℕ) → length sums ≡ 6 → Way up (Raised torn_place 1) sums sums' →
    Added up 3 own same other tally sums tally sums'
added-torn true own same other tally sums sums' long r = adds_torn long r
added-torn false own same other tally sums sums' long r = adds_torn (sym r.long ∙ long) r

pub added-nothing :
    (up : Bool) (kind own same other : ℕ) (tally sums : List ℕ) → Adds kind own same other tally sums tally sums →
    Added up kind own same other tally sums tally sums
added-nothing true kind own same other tally sums a = a
added-nothing false kind own same other tally sums a = a

-- a line that leans, with its places of the sums lowered from the first to the last: they are raised in the other order
leaning_back :
    {kind own same other : ℕ} {tally sums tally' sums₁ sums₂ sums' : List ℕ} → kind < 2 → own < weight_room →
    length tally ≡ tally_room → length sums ≡ 6 →
    Raised (tally_place kind own) 1 tally' tally → Raised kind own sums₁ sums →
    Raised (both_place kind) same sums₂ sums₁ → Raised conflicts_place other sums' sums₂ →
    Adds kind own same other tally' sums' tally sums
leaning_back {kind} {own} {same} {other} {tally} {sums} {tally'} {sums₁} {sums₂} {sums'} leans light tally_long long t a b c =
    let first = set sums' kind (get_or sums' kind 0 + own) in
    let second = set first (both_place kind) (get_or first (both_place kind) 0 + same) in
    let third = set second conflicts_place (get_or second conflicts_place 0 + other) in
    let long' : length sums' ≡ 6 = omega (arith, a.long, b.long, c.long) in
    let long₁ : length first ≡ 6 = length-set sums' kind (get_or sums' kind 0 + own) ∙ long' in
    let long₂ : length second ≡ 6 = length-set first (both_place kind) (get_or first (both_place kind) 0 + same) ∙ long₁ in
    let A : Raised kind own sums' first = raised_by-store sums' kind own (omega arith) in
    let B : Raised (both_place kind) same first second = raised_by-store first (both_place kind) same (omega arith) in
    let C : Raised conflicts_place other second third = raised_by-store second conflicts_place other (omega arith) in
    let d = adds_leaning leans light (sym t.long ∙ tally_long) long' t A B C in
    let same_at : (j : ℕ) → j < 6 → get_or third j 0 ≡ get_or sums j 0 =
    λ j h. omega (
      arith,
      A.more j (omega arith),
      B.more j (omega arith),
      C.more j (omega arith),
      a.more j (omega (arith, a.long)),
      b.more j (omega (arith, a.long, b.long)),
      c.more j (omega arith),
    ) in
    record {
      tally_long = d.tally_long;
      sums_long = long ∙ sym long';
      tally_adds = d.tally_adds;
      near_stays = d.near_stays;
      left_adds = λ p h. sym (same_at p (omega arith)) ∙ d.left_adds p h;
      both_adds = λ p h. sym (same_at (both_place p) (omega arith)) ∙ d.both_adds p h;
      torn_adds = sym (same_at torn_place (omega arith)) ∙ d.torn_adds;
      conflicts_adds = sym (same_at conflicts_place (omega arith)) ∙ d.conflicts_adds;
    }

pub added-leaning :
    (up : Bool) (kind own same other : ℕ) (tally sums tally' sums₁ sums₂ sums' : List ℕ) → kind < 2 →
    Asked up kind own same other tally sums → Way up (Raised (tally_place kind own) 1) tally tally' →
    Way up (Raised kind own) sums sums₁ → Way up (Raised (both_place kind) same) sums₁ sums₂ →
    Way up (Raised conflicts_place other) sums₂ sums' → Added up kind own same other tally sums tally' sums'
added-leaning true kind own same other tally sums tally' sums₁ sums₂ sums' leans k t a b c = adds_leaning leans k.light k.tally_long k.sums_long t a b c
added-leaning false kind own same other tally sums tally' sums₁ sums₂ sums' leans k t a b c = leaning_back leans k.light k.tally_long k.sums_long t a b c

-- a line that leans is counted in the tally, beside some sums
tally_with :
    {kind own : ℕ} {tally tally' : List ℕ} (sums : List ℕ) → kind < 2 → own < weight_room → length tally ≡ tally_room →
    length sums ≡ 6 → Raised (tally_place kind own) 1 tally tally' → (sums' : List ℕ) × Adds kind own 0 0 tally sums tally' sums'
tally_with {kind} {own} sums leans light long six t =
    let first = set sums kind (get_or sums kind 0 + own) in
    let second = set first (both_place kind) (get_or first (both_place kind) 0 + 0) in
    let long₁ : length first ≡ 6 = length-set sums kind (get_or sums kind 0 + own) ∙ six in
    let long₂ : length second ≡ 6 = length-set first (both_place kind) (get_or first (both_place kind) 0 + 0) ∙ long₁ in (
      _,
      adds_leaning
          leans
          light
          long
          six
          t
          (raised_by-store sums kind own (omega arith))
          (raised_by-store first (both_place kind) 0 (omega arith))
          (raised_by-store second conflicts_place 0 (omega arith)),
    )

-- a line that leans gets another number of untaken nonzeros: one line less and one more in the tally, and another sum
pub moves_line :
    {kind from to i j k : ℕ} {tally sums tally₁ tally' sums' : List ℕ} → kind < 2 → Movable kind from to tally sums →
    i ≡ tally_place kind from → j ≡ tally_place kind to → k ≡ kind → Raised i 1 tally₁ tally → Raised j 1 tally₁ tally' →
    sums' ≡ set sums k (get_or sums k 0 - from + to) → Moves kind from to tally sums tally' sums'
moves_line {kind} {from} {to} {i} {j} {k} {tally} {sums} {tally₁} {tally'} {sums'} leans m i-is j-is k_is out into e =
    let long : length tally₁ ≡ tally_room = sym out.long ∙ m.tally_long in
    let left = tally_with sums leans m.from_light long m.sums_long (subst (λ (x : ℕ). Raised x 1 tally₁ tally) i-is out) in
    let gets = tally_with sums leans m.to_light long m.sums_long (subst (λ (x : ℕ). Raised x 1 tally₁ tally') j-is into) in
    let v = get_or sums k 0 - from + to in
    let here : get_or sums' kind 0 + from ≡ get_or sums kind 0 + to =
    omega (
      arith,
      ap (λ (xs : List ℕ). get_or xs kind 0) e,
      ap (λ (x : ℕ). get_or (set sums k v) x 0) (sym k_is),
      get_or-set_same sums k v 0 (omega (arith, m.sums_long)),
      ap (λ (x : ℕ). get_or sums x 0) k_is,
      m.left_some leans,
    ) in
    let else : (l : ℕ) → (l ≡ kind → ⊥) → get_or sums' l 0 ≡ get_or sums l 0 =
    λ l n. ap (λ (xs : List ℕ). get_or xs l 0) e ∙ get_or-set_other sums k l v 0 (λ s. n (s ∙ k_is)) in
    record {
      tally_long = into.long ∙ sym out.long;
      sums_long = ap length e ∙ length-set sums k v;
      tally_moves = λ p x b d. omega (arith, left.1.tally_adds p x b d, gets.1.tally_adds p x b d);
      near_stays = λ p z b d. gets.1.near_stays p z b d ∙ sym (left.1.near_stays p z b d);
      left_moves = λ p b. by_test
          (eqb kind p)
          (λ q. let s : kind ≡ p = eqb-true kind p q in
          omega (
            arith,
            pick_true from 0 q,
            pick_true to 0 q,
            here,
            ap (λ (x : ℕ). get_or sums' x 0) s,
            ap (λ (x : ℕ). get_or sums x 0) s,
          ))
          (λ q. omega (arith, pick-false from 0 q, pick-false to 0 q, else p (λ s. eqb-false kind p q (sym s))));
      rest_stays = λ l b d. else l (λ s. no_way (omega arith));
    }

-- what is asked of a line of which a nonzero is taken, or given back
pub record AskedOne (taken : Bool) (by left kinds tally sums : List ℕ) (y p : ℕ) : Type 0 where
  pub pattern : Pattern
  pub tied : Tied pattern (cells kinds) (cells left) tally sums
  pub few : lines pattern ≤ line_room
  pub left_long : length left ≡ line_room
  pub line : y < lines pattern
  pub part : p < 2
  pub light : moved (not taken) (get_or left y 0) < weight_room
  pub left_room : Changeable (not taken) 65536 1 (get_or left y 0)
  pub by_room : Changeable taken 65536 1 (get_or by (line_room * p + y) 0)

pub asked_one :
    (taken : Bool) (by left kinds tally sums : List ℕ) (y p : ℕ) → Countable taken by left kinds tally sums y p →
    AskedOne taken by left kinds tally sums y p
asked_one true by left kinds tally sums y p k =
    record {
      pattern = k.pattern;
      tied = k.tied;
      few = k.few;
      left_long = k.left_long;
      line = k.line;
      part = k.part;
      light = omega (arith, k.tied.light y k.line);
      left_room = k.some;
      by_room = omega (arith, k.room);
    }
asked_one false by left kinds tally sums y p k =
    record {
      pattern = k.pattern;
      tied = k.tied;
      few = k.few;
      left_long = k.left_long;
      line = k.line;
      part = k.part;
      light = k.room;
      left_room = omega (arith, k.room);
      by_room = k.some;
    }

-- the crossing lines of a line are counted once more, or once less
pub ways_nothing : (up : Bool) (kind : ℕ) (much : ℕ → ℕ) (tally : List ℕ) → 2 ≤ kind → Way up (Nears kind much) tally tally
ways_nothing true kind much tally b = nears_nothing b
ways_nothing false kind much tally b = nears_nothing b

pub ways_start :
    (up : Bool) (kind : ℕ) (tally cross : List ℕ) (a b : ℕ) → a ≡ b → Way up (Nears kind (standing cross a b)) tally tally
ways_start true kind tally cross a b e = nears_start cross a b e
ways_start false kind tally cross a b e = nears_start cross a b e

pub ways_long : (up : Bool) (kind : ℕ) (much : ℕ → ℕ) (xs ys : List ℕ) → Way up (Nears kind much) xs ys → length ys ≡ length xs
ways_long true kind much xs ys n = n.long
ways_long false kind much xs ys n = sym n.long

pub ways_end :
    (up : Bool) (P : Pattern) (starts cross : List ℕ) (kind : ℕ) (tally tally' : List ℕ) → Laid P starts cross → (l a b : ℕ) →
    l < lines P → get_or starts l 0 ≡ a → get_or starts (l + 1) 0 ≡ b → Way up (Nears kind (standing cross a b)) tally tally' →
    Way up (Nears kind (meets P l)) tally tally'
ways_end true P starts cross kind tally tally' laid l a b line e f n = nears_end laid l a b line e f n
ways_end false P starts cross kind tally tally' laid l a b line e f n = nears_end laid l a b line e f n

module _ (starts cross : List ℕ) (l kind i z at : ℕ) (tally tally₁ : List ℕ) where
  pub ways_room :
      (up : Bool) (s : Shiftable starts cross tally l kind up) → Turn s.pattern starts cross l i z → kind < 2 → at ≡ near_place kind z →
      Way up (Nears kind (standing cross (get_or starts l 0) i)) tally tally₁ → Changeable up 65536 1 (get_or tally₁ at 0)
  ways_room true s turn leans here n =
      let room = shift_fits turn leans here s.tally_long n (s.room refl leans z (turn_line turn)) in
      omega (arith, room)
  ways_room false s turn leans here n = shift_some turn leans here s.tally_long n (s.some refl leans z (turn_line turn))

  pub ways_more :
      (up : Bool) (P : Pattern) (tally' : List ℕ) → Turn P starts cross l i z → kind < 2 → at ≡ near_place kind z → length tally ≡ tally_room →
      Way up (Nears kind (standing cross (get_or starts l 0) i)) tally tally₁ → Way up (Raised at 1) tally₁ tally' →
      Way up (Nears kind (standing cross (get_or starts l 0) (i + 1))) tally tally'
  ways_more true P tally' turn leans here long n r = shift_up turn leans here long n r
  ways_more false P tally' turn leans here long n r = shift_down turn leans here long n r
