-- Document 01, 'Refusal table', with the looks of document 02's request 6: when a state is refused (14), and how a search of the code holds a record of the walk.
-- Assumes nothing.
use Rattle.std.specs.Prelude.{Bool, true, false, not, List, [], ◌∷◌, ℕ, zero, suc, ◌+◌, ◌*◌, eqb, leb, length, get_or, set, replicate}
use Rattle.std.proofs.Math.Option.{Option, some, none}
use Rattle.counting.specs.Tests.{◌and◌, ◌or◌}
use Rattle.trail.specs.Trail.{mark_room}
use Rattle.trail.specs.declared.Trail.{Trail}
use Rattle.model.specs.declared.Mark.TheVariants.{To, Cut}
use Rattle.model.specs.declared.Part.TheVariants.{One}
use Rattle.model.specs.declared.Caps.{Caps}
use Rattle.model.specs.declared.Search.{Search}
use Rattle.model.specs.Limits.{tries_limit}
use Rattle.model.specs.Split.{caps_of, caps_outside}
use Rattle.model.specs.Marking.{mark_number}
use Rattle.model.specs.Walk.{Record, Rules, one_allowed, cuts, is_empty}

-- the first d of some marks, as a marking
unfoldable pub stack : (ℕ → ℕ) → ℕ → List ℕ
stack mark zero = []
stack mark (suc d) = mark d ∷ stack mark d

-- the marking that a trail of the code holds
unfoldable pub marks_in : Trail → List ℕ
marks_in trail = stack (λ i. get_or trail.marks i 0) trail.len

-- a best marking, where there is one
unfoldable pub best_in : Bool → Trail → Option (List ℕ)
best_in true best = some (marks_in best)
best_in false best = none

-- the caps that a search holds
abbrev pub caps_in : Search → Caps
caps_in s = caps_of s.cap0 s.cap1

-- the record that a search holds
unfoldable pub record_of : Search → Record
record_of s =
    record {
      m = s.m;
      n = s.n;
      nonzeros = s.nonzeros;
      caps = caps_in s;
      tries = s.tries;
      looks = s.looks;
      best_count = s.best_count;
      best = best_in s.found s.best;
      complete = s.complete;
      trail = marks_in s.trail;
    }

-- a marking's marks in an array with room for every line, 0 past its length
unfoldable pub array_of : List ℕ → List ℕ
array_of [] = replicate mark_room 0
array_of (x ∷ xs) = set (array_of xs) (length xs) x

-- a marking as the code holds it
unfoldable pub trail_of : List ℕ → Trail
trail_of τ = record { marks = array_of τ; len = length τ }

-- is there a best marking
unfoldable pub is_found : Option (List ℕ) → Bool
is_found none = false
is_found (some τ) = true

-- the best marking, or the empty one where there is none
unfoldable pub best_or : Option (List ℕ) → List ℕ
best_or none = []
best_or (some τ) = τ

-- the search that a call returns after accepting: this record, and 0 in each mark past a marking's length
unfoldable pub search_of : Record → Search
search_of r =
    record {
      m = r.m;
      n = r.n;
      nonzeros = r.nonzeros;
      cap0 = r.caps.cap0;
      cap1 = r.caps.cap1;
      tries = r.tries;
      looks = r.looks;
      best_count = r.best_count;
      found = is_found r.best;
      best = trail_of (best_or r.best);
      complete = r.complete;
      trail = trail_of r.trail;
    }

-- each mark is 0, 1 or cut
unfoldable pub are_marks : List ℕ → Bool
are_marks [] = true
are_marks (x ∷ xs) = leb x (mark_number Cut) and are_marks xs

-- a mark 1 stands only where it is allowed: unless it may come first, the first mark other than cut is 0
unfoldable pub ones_allowed : Bool → List ℕ → Bool
ones_allowed first [] = true
ones_allowed first (x ∷ xs) = (not (eqb x (mark_number (To One))) or one_allowed first xs) and ones_allowed first xs

-- every proper beginning is valid
unfoldable pub beginnings_valid : Rules → List ℕ → Bool
beginnings_valid R [] = true
beginnings_valid R (x ∷ xs) = R.valid xs and beginnings_valid R xs

-- the trail has 1 to k legal marks with every proper beginning valid, a mark 1 only where it is allowed; an empty trail exactly if complete
unfoldable pub trail_fine : Rules → Bool → List ℕ → Bool
trail_fine R true trail = is_empty trail
trail_fine R false trail =
    not (is_empty trail)
    and leb (length trail) R.k
    and are_marks trail
    and ones_allowed R.one_first trail
    and beginnings_valid R trail

-- a best marking is full, valid and has best count cut lines; without one the best count is k + 1 and the search not complete
unfoldable pub best_fine : Rules → Option (List ℕ) → ℕ → Bool → Bool
best_fine R (some τ) best_count complete =
    eqb (length τ) R.k and are_marks τ and R.valid τ and eqb (cuts τ) best_count
best_fine R none best_count complete = eqb best_count (R.k + 1) and not complete

-- tries in range, and looks at most tries × m × N
unfoldable pub counts_fine : ℕ → ℕ → ℕ → ℕ → Bool
counts_fine tries looks m nonzeros = leb tries tries_limit and leb looks (tries * m * nonzeros)

-- a state that is not refused, with the m, n and N of a list
unfoldable pub state_fine : Rules → ℕ → ℕ → ℕ → Record → Bool
state_fine R m n nonzeros r =
    eqb r.m m
    and eqb r.n n
    and eqb r.nonzeros nonzeros
    and leb nonzeros (r.caps.cap0 + r.caps.cap1)
    and not (caps_outside r.caps)
    and counts_fine r.tries r.looks m nonzeros
    and trail_fine R r.complete r.trail
    and best_fine R r.best r.best_count r.complete

-- a record with nothing in it
abbrev pub no_record : Record
no_record =
    record {
      m = 0;
      n = 0;
      nonzeros = 0;
      caps = caps_of 0 0;
      tries = 0;
      looks = 0;
      best_count = 0;
      best = none;
      complete = false;
      trail = [];
    }
