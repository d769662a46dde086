-- Document 01, 'Markings': the order of lines, taken nonzeros, validity, and the condition of a line, for a marking of any set of lines.
-- Assumes nothing.
use Rattle.std.specs.Prelude.{Bool, true, false, not, List, [], ◌∷◌, ◌≡◌, ℕ, zero, suc, ◌<◌, eqb, ltb, leb, length}
use Rattle.counting.specs.Tests.{◌and◌, ◌or◌, pick}
use Rattle.counting.specs.Sums.{count, any}
use Rattle.model.specs.declared.Part.{Part}
use Rattle.model.specs.declared.Part.TheVariants.{Zero, One}
use Rattle.model.specs.declared.Mark.{Mark}
use Rattle.model.specs.declared.Mark.TheVariants.{To, Cut}
use Rattle.model.specs.declared.Condition.{Condition}
use Rattle.model.specs.declared.Condition.TheVariants.{Marked, Torn, Leaning, Untouched}
use Rattle.model.specs.declared.Caps.{Caps}
use Rattle.model.specs.Pattern.{Pattern, lines, row_line, column_line, on, line_count}
use Rattle.model.specs.Split.{Split, part_number, is_cut}

-- mark 0, 1 or cut, as a number
abbrev pub mark_number : Mark → ℕ
mark_number (To p) = part_number p
mark_number Cut = 2

-- the number that stands for no mark
abbrev pub unmarked : ℕ
unmarked = 3

-- order of lines: by falling nonzero count, equal counts by lower line number
unfoldable pub precedes : Pattern → ℕ → ℕ → Bool
precedes P j l =
    ltb (line_count P l) (line_count P j) or (eqb (line_count P l) (line_count P j) and ltb j l)

-- a line's place in the order, counted from 0
unfoldable pub place : Pattern → ℕ → ℕ
place P l = count (λ j. precedes P j l) (lines P)

-- marking of the first d lines in order: the list of their d marks, the last line's first; the mark at place i
unfoldable pub mark_at : List ℕ → ℕ → ℕ
mark_at [] i = unmarked
mark_at (x ∷ xs) i = pick (eqb i (length xs)) x (mark_at xs i)

-- marking of any set of lines: the number of each line's mark, or `unmarked`
abbrev pub Marking : Type 0
Marking = ℕ → ℕ

-- the marking of the first lines in order, as a marking of lines
unfoldable pub marking : Pattern → List ℕ → Marking
marking P trail l = mark_at trail (place P l)

-- taken: nonzero t is taken by p if its row or column has mark p
unfoldable pub takes : Pattern → Marking → Part → ℕ → Bool
takes P μ p t =
    eqb (μ (row_line P t)) (mark_number (To p)) or eqb (μ (column_line P t)) (mark_number (To p))

-- D0 and D1: the number of nonzeros taken by p
unfoldable pub taken : Pattern → Marking → Part → ℕ
taken P μ p = count (takes P μ p) P.size

-- valid: no nonzero is taken by both, and D0 is at most cap 0 and D1 at most cap 1
unfoldable pub valid : Pattern → Caps → Marking → Bool
valid P caps μ =
    not (any (λ t. takes P μ Zero t and takes P μ One t) P.size)
    and leb (taken P μ Zero) caps.cap0
    and leb (taken P μ One) caps.cap1

-- line l has a nonzero taken by p
unfoldable pub touched : Pattern → Marking → Part → ℕ → Bool
touched P μ p l = any (λ t. on P l t and takes P μ p t) P.size

-- the condition of a line, from its mark and whether it has nonzeros taken by 0 and by 1
unfoldable pub condition_for : ℕ → Bool → Bool → Condition
condition_for zero by0 by1 = Marked (To Zero)
condition_for (suc zero) by0 by1 = Marked (To One)
condition_for (suc (suc zero)) by0 by1 = Marked Cut
condition_for (suc (suc (suc x))) true true = Torn
condition_for (suc (suc (suc x))) true false = Leaning Zero
condition_for (suc (suc (suc x))) false true = Leaning One
condition_for (suc (suc (suc x))) false false = Untouched

-- each line is either marked, with its mark, or unmarked and in one of three conditions
unfoldable pub condition : Pattern → Marking → ℕ → Condition
condition P μ l = condition_for (μ l) (touched P μ Zero l) (touched P μ One l)

-- a split agrees with a marking: all nonzeros of a line marked p are in p, and a line marked cut is cut
pub record Agrees (P : Pattern) (μ : Marking) (σ : Split) : Type 0 where
  pub in-part : (p : Part) (t : ℕ) → t < P.size → takes P μ p t ≡ true → σ t ≡ p
  pub cut_line : (l : ℕ) → l < lines P → μ l ≡ mark_number Cut → is_cut P σ l ≡ true
