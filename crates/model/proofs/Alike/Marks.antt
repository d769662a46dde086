-- Markings that agree on the lines of patterns that are alike: they take the same nonzeros, both are valid or neither is, and each line is in the same condition.
-- Assumes nothing.
use mathlib.Core.Bool.{Bool, not}
use mathlib.Core.List.{List}
use mathlib.Core.Path.{◌≡◌, ◌∙◌, ap}
use Prim.Native.Nat.{ℕ, ◌<◌}
use lib.Dec.{eqb, leb}
use Rattle.counting.specs.Tests.{◌and◌}
use Rattle.counting.specs.Sums.{count}
use Rattle.counting.proofs.Joined.{and_eq, or_eq}
use Rattle.model.specs.declared.Part.{Part}
use Rattle.model.specs.declared.Part.TheVariants.{Zero, One}
use Rattle.model.specs.declared.Mark.TheVariants.{To}
use Rattle.model.specs.declared.Condition.{Condition}
use Rattle.model.specs.declared.Caps.{Caps}
use Rattle.model.specs.Pattern.{Pattern, Inside, lines, row_line, column_line, on}
use Rattle.model.specs.Marking.{Marking, mark_number, marking, takes, taken, valid, touched, condition}
use Rattle.model.specs.Bound.{says_cut, says_torn, says_leaning, leans, L1, L2, untaken}
use Rattle.model.proofs.Split.Lines.{row_line_in, column_line_in}
use Rattle.model.proofs.Alike.Patterns.{Alike, counts_agree, anys_agree, lines_same, row_line_same, column_line_same, on_same, marking_same}

-- patterns that are alike, and markings that agree on their lines and on those of their nonzeros
pub record AlikeMarks (P Q : Pattern) (μ ν : Marking) : Type 0 where
  pub patterns : Alike P Q
  pub on_lines : (l : ℕ) → l < lines P → μ l ≡ ν l
  pub on_rows : (t : ℕ) → t < P.size → μ (row_line P t) ≡ ν (row_line P t)
  pub on_columns : (t : ℕ) → t < P.size → μ (column_line P t) ≡ ν (column_line P t)

-- where every nonzero lies in the matrix, markings need only agree on the matrix' lines
pub inside_marks :
    {P Q : Pattern} {μ ν : Marking} → Inside P → Alike P Q →
    ((l : ℕ) → l < lines P → μ l ≡ ν l) → AlikeMarks P Q μ ν
inside_marks {P} i a h =
    record {
      patterns = a;
      on_lines = h;
      on_rows = λ t b. h (row_line P t) (row_line_in P t i b);
      on_columns = λ t b. h (column_line P t) (column_line_in P t i b);
    }

-- the markings of one trail
pub trail_marks : {P Q : Pattern} → Alike P Q → (τ : List ℕ) → AlikeMarks P Q (marking P τ) (marking Q τ)
trail_marks {P} a τ =
    record {
      patterns = a;
      on_lines = λ l b. marking_same a τ l;
      on_rows = λ t b. marking_same a τ (row_line P t);
      on_columns = λ t b. marking_same a τ (column_line P t);
    }

module _ {P Q : Pattern} {μ ν : Marking} (k : AlikeMarks P Q μ ν) where
  -- the mark of a nonzero's row, and of its column
  row_mark : (t : ℕ) → t < P.size → μ (row_line P t) ≡ ν (row_line Q t)
  row_mark t b = k.on_rows t b ∙ ap ν (row_line_same k.patterns t b)

  column_mark : (t : ℕ) → t < P.size → μ (column_line P t) ≡ ν (column_line Q t)
  column_mark t b = k.on_columns t b ∙ ap ν (column_line_same k.patterns t b)

  pub takes_same : (p : Part) (t : ℕ) → t < P.size → takes P μ p t ≡ takes Q ν p t
  unfolding takes
  takes_same p t b =
      or_eq
      (ap (λ (x : ℕ). eqb x (mark_number (To p))) (row_mark t b))
      (ap (λ (x : ℕ). eqb x (mark_number (To p))) (column_mark t b))

  pub taken_same : (p : Part) → taken P μ p ≡ taken Q ν p
  unfolding taken
  taken_same p = counts_agree (takes P μ p) (takes Q ν p) k.patterns.size_same (takes_same p)

  pub untaken_same : (t : ℕ) → t < P.size → untaken P μ t ≡ untaken Q ν t
  unfolding untaken
  untaken_same t b = ap not (or_eq (takes_same Zero t b) (takes_same One t b))

  pub valid_same : (caps : Caps) → valid P caps μ ≡ valid Q caps ν
  unfolding valid
  valid_same caps =
      and_eq
      (and_eq
      (ap
      not
      (anys_agree
      (λ t. takes P μ Zero t and takes P μ One t)
      (λ t. takes Q ν Zero t and takes Q ν One t)
      k.patterns.size_same
      (λ t b. and_eq (takes_same Zero t b) (takes_same One t b))))
      (ap (λ (x : ℕ). leb x caps.cap0) (taken_same Zero)))
      (ap (λ (x : ℕ). leb x caps.cap1) (taken_same One))

  touched_same : (p : Part) (l : ℕ) → touched P μ p l ≡ touched Q ν p l
  unfolding touched
  touched_same p l =
      anys_agree
      (λ t. on P l t and takes P μ p t)
      (λ t. on Q l t and takes Q ν p t)
      k.patterns.size_same
      (λ t b. and_eq (on_same k.patterns l t b) (takes_same p t b))

  -- the condition of a line, where its marks are equal
  condition_at : (l : ℕ) → μ l ≡ ν l → condition P μ l ≡ condition Q ν l
  unfolding condition
  condition_at l e = rw (e, touched_same Zero l, touched_same One l)

  pub condition_same : (l : ℕ) → l < lines P → condition P μ l ≡ condition Q ν l
  condition_same l b = condition_at l (k.on_lines l b)

  pub leans_same : (p : Part) (l : ℕ) → l < lines P → leans P μ p l ≡ leans Q ν p l
  unfolding leans
  leans_same p l b = ap (says_leaning p) (condition_same l b)

  pub leans-row : (p : Part) (t : ℕ) → t < P.size → leans P μ p (row_line P t) ≡ leans Q ν p (row_line Q t)
  unfolding leans
  leans-row p t b =
      ap (says_leaning p) (condition_at (row_line P t) (k.on_rows t b))
      ∙ ap (λ (l : ℕ). says_leaning p (condition Q ν l)) (row_line_same k.patterns t b)

  pub leans_column : (p : Part) (t : ℕ) → t < P.size → leans P μ p (column_line P t) ≡ leans Q ν p (column_line Q t)
  unfolding leans
  leans_column p t b =
      ap (says_leaning p) (condition_at (column_line P t) (k.on_columns t b))
      ∙ ap (λ (l : ℕ). says_leaning p (condition Q ν l)) (column_line_same k.patterns t b)

  -- as many lines whose condition passes a test
  lines_so :
      (says : Condition → Bool) → count (λ l. says (condition P μ l)) (lines P) ≡ count (λ l. says (condition Q ν l)) (lines Q)
  lines_so says =
      counts_agree
      (λ l. says (condition P μ l))
      (λ l. says (condition Q ν l))
      (lines_same k.patterns)
      (λ l b. ap says (condition_same l b))

  pub L1_same : L1 P μ ≡ L1 Q ν
  unfolding L1
  L1_same = lines_so says_cut

  pub L2_same : L2 P μ ≡ L2 Q ν
  unfolding L2
  L2_same = lines_so says_torn
