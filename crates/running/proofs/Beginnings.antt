-- A run's beginning: the arrays as they are made, the marks of the trail but the last, and the tables of the pattern.
-- Assumes nothing.
use mathlib.Core.Bool.{true}
use mathlib.Core.List.{List, [], ◌∷◌}
use mathlib.Core.Path.{◌≡◌, refl, sym, ◌∙◌, ap, subst}
use Prim.Native.Nat.{ℕ, zero, suc, ◌+◌, ◌*◌, ◌≤◌, ◌<◌}
use native.Mathlib.Omega.{arith}
use lib.Dec.{eqb}
use lib.ListN.{length, get_or, replicate, length-replicate, get_or-replicate}
use borrow.Author.Tests.{eqb-true, eqb-false, leb-true}
use Rattle.counting.proofs.Joined.{by_test, and_left, and_right}
use Rattle.trail.specs.Trail.{mark_room, top_of, with_mark, dropped, dropped_at}
use Rattle.trail.proofs.Methods.{at_none}
use Rattle.model.specs.Refusal.{accepted}
use Rattle.model.specs.declared.Caps.{Caps}
use Rattle.model.specs.declared.Search.{Search}
use Rattle.model.specs.Calls.{list_verdict}
use Rattle.model.specs.Limits.{line_room, line_limit}
use Rattle.matching.specs.Starts.{side_room, row_start}
use Rattle.marking.specs.Order.{total_by}
use Rattle.model.specs.Pattern.{Pattern, pattern_of, lines, line_count, line_total}
use Rattle.model.specs.Marking.{place, mark_at, marking, unmarked, valid}
use Rattle.model.specs.Walk.{rules_of}
use Rattle.model.specs.State.{trail_of, caps_in, record_of, search_of, are_marks, beginnings_valid}
use Rattle.model.proofs.Alike.Patterns.{alike_self}
use Rattle.model.proofs.Alike.Marks.{inside_marks, valid_same}
use Rattle.model.proofs.Order.Marks.{mark_none, mark_last, mark_other}
use Rattle.model.proofs.Order.RulesSound.{takes-none-valid}
use Rattle.model.proofs.Theorems.OfList.{rules_k, rules-valid}
use Rattle.model.proofs.Walk.Legal.{Legal}
use Rattle.packing.specs.Packed.{earlier}
use Rattle.pattern.specs.declared.matrix.Matrix.{Matrix}
use Rattle.pattern.specs.Matrix.{pattern_in}
use Rattle.pattern.specs.Room.{within}
use Rattle.marking.specs.Marks.{unmarked_lines}
use Rattle.marking.proofs.Trails.{dropped-is}
use Rattle.crossing.specs.Crossing.{Ordered}
use Rattle.crossing.specs.Tables.{Limited, StartsOf, OrderOf, LaidFrom}
use Rattle.crossing.proofs.OfList.{list_limited, list-lines, lines-counted}
use Rattle.weighing.specs.Cells.{marking_in}
use Rattle.bound.specs.Evaluated.{Listed, Placed}
use Rattle.keeping.specs.Tied.{tally_room}
use Rattle.keeping.proofs.Holding.{holds_eq}
use Rattle.state.proofs.Accepting.{accepted_ready}
use Rattle.running.specs.declared.kept.Kept.{Kept}
use Rattle.running.specs.declared.tables.Crossed.{Crossed}
use Rattle.running.specs.declared.tables.Tables.{Tables}
use Rattle.running.specs.Arrays.{Zeros, Neutral}
use Rattle.running.specs.Tabled.{CountedOf, RankedOf, CrossedOf, TablesOf}
use Rattle.running.specs.Walking.{Standing}
use Rattle.running.specs.Kept.{Keeps}
use Rattle.running.specs.Laying.{first_marks, Keepable}
use Rattle.running.specs.Run.{Startable}
use Rattle.running.proofs.Empty.{Blank}
use Rattle.running.proofs.Turns.{legal_standing}
use Rattle.running.proofs.Firsts.{first-before}

-- a list of zeros
zeros_at : (n i : ℕ) → get_or {A = ℕ} (replicate n 0) i 0 ≡ 0
zeros_at zero i = refl
zeros_at (suc n) zero = refl
zeros_at (suc n) (suc i) = zeros_at n i

pub zeros_are : (n : ℕ) → Zeros n (replicate n 0)
zeros_are n = record { long = length-replicate {A = ℕ} n 0; zero_at = zeros_at n }

pub neutral_are : Neutral (replicate line_room 2)
neutral_are = record { long = length-replicate {A = ℕ} line_room 2; neutral = λ l b. get_or-replicate line_room l 2 0 b }

-- no marks stand
none-standing : (P : Pattern) (caps : Caps) → Standing (rules_of P caps) []
unfolding rules_of are_marks beginnings_valid marking
none-standing P caps =
    record {
      within = omega arith;
      marks = refl;
      fits = takes-none-valid P caps (marking P []) (λ l. omega (arith, mark_none (place P l)));
      before = refl;
    }

-- and so do all but the last of a legal trail
earlier-standing : (P : Pattern) (caps : Caps) (τ : List ℕ) → Legal (rules_of P caps) τ → Standing (rules_of P caps) (earlier τ)
unfolding earlier
earlier-standing P caps [] l = none-standing P caps
earlier-standing P caps (x ∷ τ) l = legal_standing l

-- a trail without its last mark holds them
pub dropped-earlier : (τ : List ℕ) → length τ ≤ mark_room → dropped (trail_of τ) ≡ trail_of (earlier τ)
unfolding earlier dropped dropped_at trail_of
dropped-earlier [] b = at_none (with_mark (trail_of []) (top_of 0) 0 (top_of 0)) (trail_of [])
dropped-earlier (x ∷ τ) b = dropped-is x τ (omega arith)

-- a line of such marks has one of them or none
mark_most : (τ : List ℕ) → are_marks τ ≡ true → (i : ℕ) → mark_at τ i ≤ unmarked
unfolding are_marks
mark_most [] marks i = omega (arith, mark_none i)
mark_most (x ∷ τ) marks i =
    by_test
    (eqb i (length τ))
    (λ e. omega (arith, ap (mark_at (x ∷ τ)) (eqb-true i (length τ) e), mark_last x τ, leb-true x 2 (and_left _ _ marks)))
    (λ e. omega (arith, mark_other x τ i (eqb-false i (length τ) e), mark_most τ (and_right _ _ marks) i))

-- the arrays as they are made are those of no marks
pub blank_made :
    {P : Pattern} {marks by counts kinds tally sums loads : List ℕ} → lines P ≤ line_room → marks ≡ unmarked_lines → Zeros (2 * line_room) by →
    length counts ≡ line_room → ((l : ℕ) → l < lines P → get_or counts l 0 ≡ line_count P l) → Neutral kinds → Zeros tally_room tally →
    Zeros 6 sums → Zeros 3 loads → Blank P marks by counts kinds tally sums loads
unfolding unmarked_lines
blank_made few marks nothing long counted unleaning untallied unsummed unloaded =
    record {
      marks_long = ap length marks ∙ length-replicate {A = ℕ} line_room unmarked;
      marked = λ l b. ap (λ (xs : List ℕ). get_or xs l 0) marks ∙ get_or-replicate line_room l unmarked 0 (omega arith);
      nothing = nothing;
      left_long = long;
      counted = counted;
      unleaning = unleaning;
      untallied = untallied;
      unsummed = unsummed;
      unloaded = unloaded;
    }

-- the pattern of an accepted list is within the limits
pub listed_limited : {m n nonzeros : ℕ} {list rows : List ℕ} → Listed m n nonzeros list rows → Limited (pattern_of m n nonzeros list)
listed_limited {m} {n} {nonzeros} {list} l =
    list_limited m n nonzeros list l.rows_small l.columns_small l.small l.inside l.thin

-- the lines of an accepted list, as they are ranked
pub ranked_made :
    (x : Matrix) (rows counts places : List ℕ) (full total : ℕ) →
    list_verdict x.m x.n x.nonzeros x.list.now ≡ accepted → total ≡ within (x.m + x.n) →
    ((i : ℕ) → i ≤ side_room → get_or rows i 0 ≡ row_start (pattern_in x) i) →
    (length counts ≡ line_room) × ((l : ℕ) → l < line_room → get_or counts l 0 ≡ line_count (pattern_in x) l) →
    (x.m + x.n ≤ line_room → ((l : ℕ) → l < line_room → get_or counts l 0 ≡ line_count (pattern_in x) l) →
    ((l : ℕ) → line_count (pattern_in x) l ≤ line_limit) → Placed (pattern_in x) places) →
    full ≡ total_by counts total →
    RankedOf x rows counts places full
ranked_made x rows counts places full total opens all started counted placed filled =
    record {
      ready = accepted_ready x.m x.n x.nonzeros x.list.now counts places rows full opens counted.1 placed started (filled ∙ ap (total_by counts) all);
      counts_long = counted.0;
      counts_are = counted.1;
    }

-- where its lines cross, as it is made
pub crossed_made :
    (x : Matrix) {rows counts starts cross : List ℕ} (total : ℕ) → CountedOf x rows counts → total ≡ within (x.m + x.n) →
    (length starts ≡ line_room) × StartsOf total counts starts → LaidFrom (pattern_in x) starts cross →
    CrossedOf x rows counts starts cross
crossed_made x {counts = counts} total c all laid crossed =
    let listed = c.listed in
    let limited = listed_limited listed in
    let every = list-lines x.m x.n x.nonzeros x.list.now listed.rows_small listed.columns_small ∙ sym all in
    let counts_are = lines-counted counts limited c.counts_are in
    record {
      listed = listed;
      laid = crossed laid.0 limited (laid.1 (pattern_in x) limited every counts_are);
      counts_long = c.counts_long;
      counts_are = counts_are;
    }

-- what is counted of a pattern whose lines are ranked
pub ranked_counted : {x : Matrix} {rows counts places : List ℕ} {full : ℕ} → RankedOf x rows counts places full → CountedOf x rows counts
ranked_counted r = record { listed = r.ready.listed; counts_long = r.counts_long; counts_are = r.counts_are }

-- its lines in order,
pub order_made :
    {x : Matrix} {rows counts places order : List ℕ} {full : ℕ} (total : ℕ) → RankedOf x rows counts places full → total ≡ within (x.m + x.n) →
    OrderOf total places order → Ordered (pattern_in x) order
order_made {x} total r all ordered =
    let listed = r.ready.listed in
    let every = list-lines x.m x.n x.nonzeros x.list.now listed.rows_small listed.columns_small ∙ sym all in
    ordered (pattern_in x) (listed_limited listed) every r.ready.placed.placed

-- and such a pattern with its crossing lines and its lines in order,
pub tables_ordered :
    {x y : Matrix} {rows' counts' places rows counts starts cross order : List ℕ} {full : ℕ} → RankedOf y rows' counts' places full → x ≡ y →
    CrossedOf x rows counts starts cross → Ordered (pattern_in y) order → TablesOf x rows counts places starts cross order full
tables_ordered {places = places} {order = order} {full = full} r same c ordered =
    record {
      ready = record {
        listed = c.listed;
        placed = subst (λ (y : Matrix). Placed (pattern_in y) places) (sym same) r.ready.placed;
        total = subst (λ (y : Matrix). full ≡ line_total (pattern_in y)) (sym same) r.ready.total;
        few = r.ready.few;
      };
      tabled = record {
        laid = c.laid;
        ordered = subst (λ (y : Matrix). Ordered (pattern_in y) order) (sym same) ordered;
        counts_long = c.counts_long;
        counts_are = c.counts_are;
      };
    }

-- the tables of an accepted list, as they are made
pub tables_made :
    (x : Matrix) (rows counts places starts cross order : List ℕ) (full total : ℕ) →
    list_verdict x.m x.n x.nonzeros x.list.now ≡ accepted → total ≡ within (x.m + x.n) →
    ((i : ℕ) → i ≤ side_room → get_or rows i 0 ≡ row_start (pattern_in x) i) →
    (length counts ≡ line_room) × ((l : ℕ) → l < line_room → get_or counts l 0 ≡ line_count (pattern_in x) l) →
    (x.m + x.n ≤ line_room → ((l : ℕ) → l < line_room → get_or counts l 0 ≡ line_count (pattern_in x) l) →
    ((l : ℕ) → line_count (pattern_in x) l ≤ line_limit) → Placed (pattern_in x) places) →
    (length starts ≡ line_room) × StartsOf total counts starts → LaidFrom (pattern_in x) starts cross → OrderOf total places order →
    full ≡ total_by counts total →
    TablesOf x rows counts places starts cross order full
tables_made x rows counts places starts cross order full total opens all started counted placed laid crossed ordered filled =
    let ranked = ranked_made x rows counts places full total opens all started counted placed filled in
    tables_ordered ranked refl (crossed_made x total (ranked_counted ranked) all laid crossed) (order_made total ranked all ordered)

-- each of so many lines is one of the pattern
pub every_line : (t : Crossed) (total end : ℕ) → total ≡ within (t.matrix.m + t.matrix.n) → end ≡ total → end ≡ lines (pattern_in t.matrix)
every_line t total end all e =
    let x = t.matrix in
    let l = t.made.listed in
    e ∙ all ∙ sym (list-lines x.m x.n x.nonzeros x.list.now l.rows_small l.columns_small)

-- the marks that a run places
module _ (t : Tables) {s : Search} {k budget : ℕ} (r : Startable s t.crossed.matrix k budget) where
  abbrev x : Matrix
  x = t.crossed.matrix

  short : length (record_of s).trail ≤ mark_room
  short = omega (arith, r.legal.within, rules_k (pattern_in x) (caps_in s), t.made.ready.total, t.made.ready.few)

  -- the marks by line that it places are those of the trail but the last,
  module _
      (total : ℕ) (all : total ≡ within (x.m + x.n)) (given : List ℕ)
      (before : (τ : List ℕ) → s.trail ≡ trail_of τ → length τ ≤ mark_room → (l : ℕ) → l < lines (pattern_in x) →
      marking_in given l ≡ marking (pattern_in x) (earlier τ) l)
    where
      given_same : (l : ℕ) → l < lines (pattern_in x) → marking_in given l ≡ marking (pattern_in x) (earlier (record_of s).trail) l
      unfolding search_of
      given_same = before (record_of s).trail (ap (λ (q : Search). q.trail) r.held) short

      -- which are valid,
      given_fits : valid (pattern_in x) (caps_in s) (marking_in given) ≡ true
      given_fits =
          let P = pattern_in x in
          valid_same (inside_marks t.made.ready.listed.inside (alike_self P) given_same) (caps_in s)
          ∙ rules-valid P (caps_in s) (earlier (record_of s).trail)
          ∙ (earlier-standing P (caps_in s) (record_of s).trail r.legal).fits

      -- so that they can be placed,
      pub given_keepable :
          (end : ℕ) → end ≡ total → Keepable given t.crossed end
      given_keepable end e =
          record {
            caps = caps_in s;
            every = every_line t.crossed total end all e;
            fits = given_fits;
          }

      -- and all is kept of them
      pub given_kept :
          (end : ℕ) {kept : Kept} → end ≡ total →
          ((caps : Caps) → end ≡ lines (pattern_in x) → valid (pattern_in x) caps (marking_in given) ≡ true →
          Keeps (pattern_in x) (first_marks (marking_in given) end) kept) →
          Keeps (pattern_in x) (marking (pattern_in x) (earlier (record_of s).trail)) kept
      unfolding marking
      given_kept end e keeps =
          let P = pattern_in x in
          let τ = earlier (record_of s).trail in
          let every = every_line t.crossed total end all e in
          holds_eq
          t.made.ready.listed.inside
          (marking P τ)
          (λ z b. omega (
            arith,
            first-before (marking_in given) end z (omega arith),
            given_same z b,
            mark_most τ (earlier-standing P (caps_in s) (record_of s).trail r.legal).marks (place P z),
          ))
          (keeps (caps_in s) every given_fits)
