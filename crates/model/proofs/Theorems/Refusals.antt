-- A refused call changes nothing: a run leaves the search as it was, a showing every byte of its parts.
-- Assumes nothing.
use Rattle.std.specs.Prelude.{Ok, Err}
use mathlib.Core.List.{List}
use mathlib.Core.Option.{Option, some, none}
use mathlib.Core.Path.{◌≡◌, refl}
use Prim.Native.Nat.{ℕ}
use Rattle.counting.proofs.Joined.{never}
use Rattle.model.specs.Refusal.{Verdict, refused}
use Rattle.model.specs.declared.Word.{Word}
use Rattle.model.specs.declared.Caps.{Caps}
use Rattle.model.specs.declared.Search.{Search}
use Rattle.model.specs.declared.Shown.TheVariants as showing
use Rattle.model.specs.Pattern.{Pattern, pattern_of}
use Rattle.model.specs.Walk.{Record, rules_of, floor}
use Rattle.model.specs.State.{record_of}
use Rattle.model.specs.Calls.{run_verdict, show_verdict, ran_after, run_call, shown, shown_parts, shown_after, parts_after, show_call, show_parts}

run_by_verdict :
    (v : Verdict) (s : Search) (P : Pattern) (budget : ℕ) (word : Word) (place : ℕ) →
    (ran_after v s P budget).answer ≡ refused word place →
    (v ≡ refused word place) × ((ran_after v s P budget).search ≡ s)
unfolding ran_after
run_by_verdict (Ok _) s P budget word place e = never (cc)
run_by_verdict (Err refusal) s P budget word place e = (cc, refl)

-- a refused run leaves the search as it was
pub run_refused :
    (s : Search) (m n nonzeros : ℕ) (list : List ℕ) (budget : ℕ) (word : Word) (place : ℕ) →
    (run_call s m n nonzeros list budget).answer ≡ refused word place →
    (run_verdict (record_of s) m n nonzeros list budget ≡ refused word place)
    × ((run_call s m n nonzeros list budget).search ≡ s)
unfolding run_call
run_refused s m n nonzeros list budget word place e =
    run_by_verdict (run_verdict (record_of s) m n nonzeros list budget) s (pattern_of m n nonzeros list) budget word place e

show-by_verdict :
    (v : Verdict) (r : Record) (P : Pattern) (parts : List ℕ) (word : Word) (place : ℕ) →
    shown_after v r P ≡ refused word place →
    (v ≡ refused word place) × (parts_after v r P parts ≡ parts)
unfolding shown_after parts_after
show-by_verdict (Ok _) r P parts word place e = never (cc)
show-by_verdict (Err refusal) r P parts word place e = (cc, refl)

-- a refused showing leaves its parts as they were
pub show_refused :
    (s : Search) (m n nonzeros : ℕ) (list parts : List ℕ) (word : Word) (place : ℕ) →
    show_call s m n nonzeros list parts ≡ refused word place →
    (show_verdict (record_of s) m n nonzeros list parts ≡ refused word place)
    × (show_parts s m n nonzeros list parts ≡ parts)
unfolding show_call show_parts
show_refused s m n nonzeros list parts word place e =
    show-by_verdict
    (show_verdict (record_of s) m n nonzeros list parts)
    (record_of s)
    (pattern_of m n nonzeros list)
    parts
    word
    place
    e

-- so does one that answers "none yet"
none_parts :
    (P : Pattern) (caps : Caps) (best : Option (List ℕ)) (low floor : ℕ) (parts : List ℕ) →
    shown P caps best low ≡ showing.NoneYet floor → shown_parts P caps best parts ≡ parts
unfolding shown shown_parts
none_parts P caps none low floor parts e = refl
none_parts P caps (some best) low floor parts e = never (cc)

none-by_verdict :
    (v : Verdict) (r : Record) (P : Pattern) (parts : List ℕ) (low : ℕ) →
    shown_after v r P ≡ Ok (showing.NoneYet low) → parts_after v r P parts ≡ parts
unfolding shown_after parts_after
none-by_verdict (Ok _) r P parts low e = none_parts P r.caps r.best (floor (rules_of P r.caps) r) low parts (cc)
none-by_verdict (Err refusal) r P parts low e = refl

pub show-none :
    (s : Search) (m n nonzeros : ℕ) (list parts : List ℕ) (low : ℕ) →
    show_call s m n nonzeros list parts ≡ Ok (showing.NoneYet low) → show_parts s m n nonzeros list parts ≡ parts
unfolding show_call show_parts
show-none s m n nonzeros list parts low e =
    none-by_verdict
    (show_verdict (record_of s) m n nonzeros list parts)
    (record_of s)
    (pattern_of m n nonzeros list)
    parts
    low
    e
