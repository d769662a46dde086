-- What the code of a row's visit does at each turn of its loop is what the search does.
-- Assumes nothing.
use mathlib.Core.Bool.{Bool, true, false, not}
use mathlib.Core.List.{List, [], ◌∷◌}
use mathlib.Core.Path.{◌≡◌, sym, ◌∙◌, ap}
use Prim.Native.Nat.{ℕ, suc, ◌+◌, ◌-◌, ◌≤◌, ◌<◌}
use native.Mathlib.Omega.{arith}
use lib.Dec.{ltb}
use lib.ListN.{get_or}
use borrow.Author.Tests.{ltb-true, ltb-false, lt-ltb, ne_eqb}
use Rattle.counting.proofs.Joined.{no_way, clash, by_test, pick_true, pick-false, and_left, and_fails_left, and_fails_right, or_fails}
use Rattle.model.specs.Pattern.{column_in}
use Rattle.model.specs.Matching.{Visited, visited, Visit, looked, columns_where, through, column_within}
use Rattle.model.specs.Walk.{is_empty}
use Rattle.model.proofs.Matching.Columns.{where_take, where_pass, where_none}
use Rattle.model.proofs.Matching.Visits.{looked_twice, looked-none, through-none, through-found, through-on}
use Rattle.matching.specs.declared.augmenting.Visit as code
use Rattle.matching.specs.Augmenting.{ground_of, Ground, different, at_odds, columns_from, columns_in, entered_in, mates_in, unseen, ColumnVisits, side_room}

-- no column is left past the last nonzero
pub from-none : (G : Ground) (i end t : ℕ) → end ≤ t → columns_from G i (end - t) t ≡ []
unfolding columns_from columns_where
from-none G i end t h =
    let z : end - t ≡ 0 = omega arith in
    ap (λ (n : ℕ). columns_from G i n t) z

-- the columns of row i are those of its nonzeros from t up to end
pub row_begins :
    (G : Ground) (i t end : ℕ) → i < side_room → t ≡ get_or G.starts i 0 → end ≡ get_or G.starts (i + 1) 0 →
    columns_in G i ≡ columns_from G i (end - t) t
unfolding columns_in
row_begins G i t end b e f =
    pick_true _ _ (lt-ltb i side_room b)
    ∙ ap (λ (x : ℕ). columns_from G i (get_or G.starts (i + 1) 0 - x) x) (sym e)
    ∙ ap (λ (x : ℕ). columns_from G i (x - t) t) (sym f)

-- a row past the last has none
pub row-outside : (G : Ground) (i : ℕ) → ltb i side_room ≡ false → columns_in G i ≡ []
unfolding columns_in
row-outside G i e = pick-false _ _ e

-- and so of any row, where the nonzeros of a row past the last end at 0
pub any_begins :
    (G : Ground) (i t end : ℕ) → t ≡ get_or G.starts i 0 → end ≡ get_or G.starts (i + 1) 0 →
    (side_room ≤ i → end ≡ 0) → columns_in G i ≡ columns_from G i (end - t) t
any_begins G i t end e f past =
    by_test
    (ltb i side_room)
    (λ b. row_begins G i t end (ltb-true i side_room b) e f)
    (λ b. row-outside G i b ∙ sym (from-none G i end t (omega (arith, past (ltb-false i side_room b)))))

-- a row that leans to no part has none
pub from_passed : (G : Ground) (i n t : ℕ) → 1 < get_or G.lean i 0 → columns_from G i n t ≡ []
unfolding columns_from at_odds different
from_passed G i n t h =
    let zero = ne_eqb (get_or G.lean i 0) 0 (λ q. no_way (omega arith)) in
    let one = ne_eqb (get_or G.lean i 0) 1 (λ q. no_way (omega arith)) in
    where_none
    (λ s. at_odds G.lean G.m i (column_in G.list s))
    (column_in G.list)
    n
    t
    (λ s a b. and_fails_right _ (or_fails (and_fails_left _ zero) (and_fails_left _ one)))

pub in_passed : (G : Ground) (i : ℕ) → 1 < get_or G.lean i 0 → not (is_empty (columns_in G i)) ≡ false
unfolding columns_in is_empty
in_passed G i h =
    ap
    (λ (js : List ℕ). not (is_empty js))
    (by_test
    (ltb i side_room)
    (λ b. pick_true _ _ b ∙ from_passed G i _ _ h)
    (λ b. row-outside G i b))

-- the same of a row's leaning as it is read
pub row_passed : (lean : List ℕ) (m : ℕ) (list starts : List ℕ) (i : ℕ) → 1 < get_or lean i 0 → false ≡ not (is_empty (columns_in (ground_of lean m list starts) i))
row_passed lean m list starts i h = sym (in_passed (ground_of lean m list starts) i h)

-- a row with a conflict is not past the last
pub some_inside : (G : Ground) (i : ℕ) → not (is_empty (columns_in G i)) ≡ true → i < side_room
unfolding is_empty
some_inside G i h =
    by_test
    (ltb i side_room)
    (λ b. ltb-true i side_room b)
    (λ b. clash h (ap (λ (js : List ℕ). not (is_empty js)) (row-outside G i b)))

-- a column at odds with a row is not past the last
pub odds_inside : (lean : List ℕ) (m i j : ℕ) → at_odds lean m i j ≡ true → j < side_room
unfolding at_odds
odds_inside lean m i j e = ltb-true j side_room (and_left (ltb j side_room) _ e)

-- nonzero t of row i, whose column is j
pub record Nonzero (G : Ground) (i end t j : ℕ) (odds : Bool) : Type 0 where
  pub here : t < end
  pub same : j ≡ column_in G.list t
  pub odds_are : odds ≡ at_odds G.lean G.m i j

module _ {G : Ground} {i end t j : ℕ} {odds : Bool} (x : Nonzero G i end t j odds) where
  -- one nonzero fewer is left
  fewer : end - t ≡ suc (end - (t + 1))
  fewer = omega (arith, x.here)

  next : suc t ≡ t + 1
  next = omega arith

  at : at_odds G.lean G.m i (column_in G.list t) ≡ odds
  at = ap (at_odds G.lean G.m i) (sym x.same) ∙ sym x.odds_are

  -- the row is not at odds with the column
  pub from_pass : odds ≡ false → columns_from G i (end - t) t ≡ columns_from G i (end - (t + 1)) (t + 1)
  unfolding columns_from
  from_pass e =
      ap (λ (n : ℕ). columns_from G i n t) fewer
      ∙ where_pass _ (column_in G.list) (end - (t + 1)) t (at ∙ e)
      ∙ ap (columns_from G i (end - (t + 1))) next

  -- it is
  pub from-take : odds ≡ true → columns_from G i (end - t) t ≡ j ∷ columns_from G i (end - (t + 1)) (t + 1)
  unfolding columns_from
  from-take e =
      ap (λ (n : ℕ). columns_from G i n t) fewer
      ∙ where_take _ (column_in G.list) (end - (t + 1)) t (at ∙ e)
      ∙ ap (λ (c : ℕ). c ∷ columns_from G i (end - (t + 1)) (suc t)) (sym x.same)
      ∙ ap (λ (y : ℕ). j ∷ columns_from G i (end - (t + 1)) y) next

-- the visit of row i from seen₀ and mate₀ on, after so many looks: what is left of its nonzeros decides it
abbrev pub Rest : Ground → ℕ → ℕ → List ℕ → List ℕ → ℕ → ℕ → List ℕ → List ℕ → Type 0
Rest G i end seen₀ mate₀ t looks seen mate =
    (depth : ℕ) → unseen seen₀ ≤ depth →
    through (column_within (columns_in G) depth) i (columns_in G i) (entered_in seen₀) (mates_in mate₀)
    ≡ looked looks (through (column_within (columns_in G) depth) i (columns_from G i (end - t) t) (entered_in seen) (mates_in mate))

-- the same arrays and the same looks
rest_as :
    (visit : Visit) (i : ℕ) (js s s' m m' : List ℕ) (x x' : ℕ) → s ≡ s' → m ≡ m' → x ≡ x' →
    looked x' (through visit i js (entered_in s') (mates_in m')) ≡ looked x (through visit i js (entered_in s) (mates_in m))
rest_as visit i js s s' m m' x x' p q l =
    λ k. looked (sym l k) (through visit i js (entered_in (sym p k)) (mates_in (sym q k)))

-- it begins
pub rest_begins :
    (G : Ground) (i end t : ℕ) (seen mate : List ℕ) →
    columns_in G i ≡ columns_from G i (end - t) t → Rest G i end seen mate t 0 seen mate
rest_begins G i end t seen mate e depth few =
    ap (λ (js : List ℕ). through (column_within (columns_in G) depth) i js (entered_in seen) (mates_in mate)) e
    ∙ looked-none _

-- a turn of the loop: what is left decides the visit
pub record Turn (G : Ground) (i end : ℕ) (seen₀ mate₀ : List ℕ) (t looks : ℕ) (seen mate : List ℕ) : Type 0 where
  pub rest : Rest G i end seen₀ mate₀ t looks seen mate

module _ {G : Ground} {i end : ℕ} {seen₀ mate₀ : List ℕ} {t looks : ℕ} {seen mate : List ℕ} (turn : Turn G i end seen₀ mate₀ t looks seen mate) where
  -- other columns are left
  left_are :
      (js : List ℕ) → columns_from G i (end - t) t ≡ js → (depth : ℕ) → unseen seen₀ ≤ depth →
      through (column_within (columns_in G) depth) i (columns_in G i) (entered_in seen₀) (mates_in mate₀)
      ≡ looked looks (through (column_within (columns_in G) depth) i js (entered_in seen) (mates_in mate))
  left_are js e depth few =
      turn.rest depth few
      ∙ ap (λ (x : List ℕ). looked looks (through (column_within (columns_in G) depth) i x (entered_in seen) (mates_in mate))) e

  -- it ends
  pub rest_ends :
      (depth : ℕ) → columns_from G i (end - t) t ≡ [] → unseen seen₀ ≤ depth →
      visited false looks (entered_in seen) (mates_in mate)
      ≡ through (column_within (columns_in G) depth) i (columns_in G i) (entered_in seen₀) (mates_in mate₀)
  unfolding looked
  rest_ends depth e few =
      let q : looks ≡ looks + 0 = omega arith in
      ap (λ (x : ℕ). visited false x (entered_in seen) (mates_in mate)) q
      ∙ sym (ap (looked looks) (through-none (column_within (columns_in G) depth) i (entered_in seen) (mates_in mate)))
      ∙ sym (left_are [] e depth few)

  -- nothing changed but the nonzero
  pub rest_skips :
      (s m : List ℕ) (x : ℕ) → columns_from G i (end - t) t ≡ columns_from G i (end - (t + 1)) (t + 1) →
      s ≡ seen → m ≡ mate → x ≡ looks → Rest G i end seen₀ mate₀ (t + 1) x s m
  rest_skips s m x e p q l depth few =
      let js = columns_from G i (end - (t + 1)) (t + 1) in
      left_are js e depth few
      ∙ rest_as (column_within (columns_in G) depth) i js s seen m mate x looks p q l

  -- column j was visited
  module _ (j : ℕ) (e : columns_from G i (end - t) t ≡ j ∷ columns_from G i (end - (t + 1)) (t + 1)) (v : code.Visit) (s m : List ℕ) (k : ColumnVisits G j i seen mate v s m) (few : unseen seen ≤ unseen seen₀) where
    -- what it left
    abbrev gone : ℕ → Visited
    gone depth = column_within (columns_in G) depth j i (entered_in seen) (mates_in mate)

    gave : (depth : ℕ) → unseen seen₀ ≤ depth → visited v.found v.looks (entered_in s) (mates_in m) ≡ looked 1 (gone depth)
    gave depth d = k.is depth (omega arith)

    told : (depth : ℕ) → unseen seen₀ ≤ depth → (gone depth).found ≡ v.found
    unfolding looked
    told depth d = ap (λ (o : Visited). o.found) (sym (gave depth d))

    -- it ended at an unmatched column
    pub rest-found :
        v.found ≡ true → (depth : ℕ) → unseen seen₀ ≤ depth →
        visited true (looks + v.looks) (entered_in s) (mates_in m)
        ≡ through (column_within (columns_in G) depth) i (columns_in G i) (entered_in seen₀) (mates_in mate₀)
    unfolding looked
    rest-found y depth d =
        ap (λ (x : Bool). looked looks (visited x v.looks (entered_in s) (mates_in m))) (sym y)
        ∙ ap (looked looks) (gave depth d)
        ∙ sym (
        left_are _ e depth d
        ∙ ap (looked looks) (through-found (column_within (columns_in G) depth) i (entered_in seen) (mates_in mate) j _ (told depth d ∙ y))
        )

    -- it did not
    pub rest_goes :
        (s' m' : List ℕ) (x : ℕ) → v.found ≡ false → s' ≡ s → m' ≡ m → x ≡ looks + v.looks →
        Rest G i end seen₀ mate₀ (t + 1) x s' m'
    unfolding looked
    rest_goes s' m' x y p q l depth d =
        let js = columns_from G i (end - (t + 1)) (t + 1) in
        let go = through (column_within (columns_in G) depth) i js in
        let o = gone depth in
        left_are _ e depth d
        ∙ ap (looked looks) (through-on (column_within (columns_in G) depth) i (entered_in seen) (mates_in mate) j js (told depth d ∙ y))
        ∙ looked_twice looks (1 + o.looks) (go o.entered o.mate)
        ∙ ap (λ (x : Visited). looked (looks + x.looks) (go x.entered x.mate)) (sym (gave depth d))
        ∙ rest_as (column_within (columns_in G) depth) i js s' s m' m x (looks + v.looks) p q l
