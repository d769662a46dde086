-- Document 01, 'The bound': L1 to L4 and the bound, for a marking of any set of lines.
-- Assumes nothing.
use Rattle.std.specs.Prelude.{Bool, true, false, not, List, [], ◌∷◌, ◌++◌, ℕ, zero, suc, ◌+◌, ◌-◌, max, eqb, leb, replicate}
use Rattle.counting.specs.Tests.{◌and◌, ◌or◌, pick}
use Rattle.counting.specs.Sums.{count}
use Rattle.model.specs.declared.Part.{Part}
use Rattle.model.specs.declared.Part.TheVariants.{Zero, One}
use Rattle.model.specs.declared.Mark.TheVariants.{To, Cut}
use Rattle.model.specs.declared.Condition.{Condition}
use Rattle.model.specs.declared.Condition.TheVariants.{Marked, Torn, Leaning, Untouched}
use Rattle.model.specs.declared.Caps.{Caps}
use Rattle.model.specs.Pattern.{Pattern, lines, row_line, column_line, on}
use Rattle.model.specs.Split.{same_part, cap_of}
use Rattle.model.specs.Marking.{Marking, takes, taken, condition}

-- marked cut
abbrev pub says_cut : Condition → Bool
says_cut (Marked (To p)) = false
says_cut (Marked Cut) = true
says_cut Torn = false
says_cut (Leaning p) = false
says_cut Untouched = false

-- torn
abbrev pub says_torn : Condition → Bool
says_torn (Marked mark) = false
says_torn Torn = true
says_torn (Leaning p) = false
says_torn Untouched = false

-- leaning to p
unfoldable pub says_leaning : Part → Condition → Bool
says_leaning p (Marked mark) = false
says_leaning p Torn = false
says_leaning p (Leaning q) = same_part p q
says_leaning p Untouched = false

-- line l leans to p
unfoldable pub leans : Pattern → Marking → Part → ℕ → Bool
leans P μ p l = says_leaning p (condition P μ l)

-- L1: lines marked cut
unfoldable pub L1 : Pattern → Marking → ℕ
L1 P μ = count (λ l. says_cut (condition P μ l)) (lines P)

-- L2: torn lines
unfoldable pub L2 : Pattern → Marking → ℕ
L2 P μ = count (λ l. says_torn (condition P μ l)) (lines P)

-- nonzero t is untaken
unfoldable pub untaken : Pattern → Marking → ℕ → Bool
untaken P μ t = not (takes P μ Zero t or takes P μ One t)

-- s: the number of untaken nonzeros in lines leaning to p, each counted once even if both its lines lean
unfoldable pub at_stake : Pattern → Marking → Part → ℕ
at_stake P μ p =
    count
    (λ t. untaken P μ t and (leans P μ p (row_line P t) or leans P μ p (column_line P t)))
    P.size

-- a line's count of untaken nonzeros
unfoldable pub untaken_on : Pattern → Marking → ℕ → ℕ
untaken_on P μ l = count (λ t. on P l t and untaken P μ t) P.size

-- most first: h x copies of x, then h (x - 1) of x - 1, and so on down to h 0 of 0
unfoldable pub falling : (ℕ → ℕ) → ℕ → List ℕ
falling h zero = replicate (h 0) 0
falling h (suc x) = replicate (h (suc x)) (suc x) ++ falling h x

-- the untaken counts of the lines leaning to p, most first
unfoldable pub leaning_counts : Pattern → Marking → Part → List ℕ
leaning_counts P μ p =
    falling (λ x. count (λ l. leans P μ p l and eqb (untaken_on P μ l) x) (lines P)) P.size

-- strike out, subtracting each count from s, until s is at most the room: the number struck
unfoldable pub strikes : List ℕ → ℕ → ℕ → ℕ
strikes [] s room = 0
strikes (x ∷ xs) s room = pick (leb s room) 0 (suc (strikes xs (s - x) room))

-- the number struck for p: the room is cap p - Dp
unfoldable pub struck : Pattern → Caps → Marking → Part → ℕ
struck P caps μ p = strikes (leaning_counts P μ p) (at_stake P μ p) (cap_of caps p - taken P μ p)

-- L3: the number struck for both parts
unfoldable pub L3 : Pattern → Caps → Marking → ℕ
L3 P caps μ = struck P caps μ Zero + struck P caps μ One

-- conflict: a nonzero whose row and column lean to different parts
unfoldable pub conflict : Pattern → Marking → ℕ → Bool
conflict P μ t =
    (leans P μ Zero (row_line P t) and leans P μ One (column_line P t))
    or (leans P μ One (row_line P t) and leans P μ Zero (column_line P t))

-- the most conflicts that can be chosen among the first nonzeros, no two in one line and none in a line that is used:
-- the last of them is left out, or chosen if neither of its lines is used
unfoldable pub most_chosen : Pattern → Marking → (ℕ → Bool) → ℕ → ℕ
most_chosen P μ used zero = 0
most_chosen P μ used (suc t) =
    let chosen = suc (most_chosen P μ (λ l. used l or on P l t) t) in
    let free = conflict P μ t and not (used (row_line P t)) and not (used (column_line P t)) in
    max (most_chosen P μ used t) (pick free chosen 0)

-- L4: the most conflicts that can be chosen, no two in one line
unfoldable pub L4 : Pattern → Marking → ℕ
L4 P μ = most_chosen P μ (λ l. false) P.size

-- bound: L1 + L2 + the larger of L3 and L4
unfoldable pub bound : Pattern → Caps → Marking → ℕ
bound P caps μ = L1 P μ + L2 P μ + max (L3 P caps μ) (L4 P μ)
