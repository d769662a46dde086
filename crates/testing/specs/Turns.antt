-- The cases of a text, answered one by one.
-- Assumes nothing.
use Rattle.std.specs.Prelude.{◌≡◌, ℕ, zero, suc, leb, [], get_or, MatchBool, MatchResult, Result, Ok}
use Rattle.std.specs.Fn.{Called, Mut}
use denote.Ref.{MutBor}
use Rattle.testing.specs.Cases.{field_at}
use Rattle.testing.specs.declared.cases.Cases.{Cases}
use Rattle.testing.specs.declared.Kind.TheVariants.{Text}

-- the letter at a cursor, or 0 past the end
abbrev pub letter_of : Cases → ℕ
letter_of cases = get_or cases.text.now cases.at 0

-- the cursor past a field
abbrev pub past_kind : Cases → Cases
past_kind cases = record cases { at = (field_at Text cases.text.now cases.at []).0.next }

module _ {F E : Type 0} (g : Mut F (ℕ × (MutBor Cases × Unit {0})) (Result (Unit {0}) E × (MutBor Cases × Unit {0}))) where
  -- a call of f at a letter and a `&mut` to a cursor may give r, and leave f' and that cursor
  pub record AnswersCase (f : F) (letter : ℕ) (cases : Cases) (r : Result (Unit {0}) E) (f' : F) (left : Cases) : Type 0 where
    pub shown : MutBor Cases
    pub shows : shown.now ≡ cases
    pub back : MutBor Cases
    pub called : Called g f (letter, (shown, tt)) (r, (back, tt)) f'
    pub leaves : back.now ≡ left

  -- so many cases at most are answered in turn, from the one at a cursor on, up to the first that begins at a place or past it, or whose answer
  -- is an error; r is that error, or Ok, and f is `last` after them
  unfoldable pub Answered : ℕ → ℕ → F → Cases → Result (Unit {0}) E → F → Type 0
  Answered end zero f cases r last = (r ≡ Ok tt) × (last ≡ f)
  Answered end (suc k) f cases r last =
      MatchBool (leb end cases.at) ((r ≡ Ok tt) × (last ≡ f))
      ((answer : Result (Unit {0}) E) × (f' : F) × (left : Cases) × AnswersCase f (letter_of cases) (past_kind cases) answer f' left
      × MatchResult answer (λ _. Answered end k f' left r last) (λ _. (r ≡ answer) × (last ≡ f')))
