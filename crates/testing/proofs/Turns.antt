-- The cases of a text, answered one after the other.
-- Assumes nothing.
use Rattle.std.proofs.Common.{◌≡◌, refl, subst, ℕ, zero, suc, ◌+◌, ◌-◌, ◌≤◌, ◌<◌, true, false, Ok, Err, arith}
use Rattle.std.proofs.lemmas.Bool.{le-leb, lt-leb}
use Rattle.std.specs.Prelude.{Result, is_err}
use Rattle.std.specs.Fn.{Called, Mut}
use denote.Ref.{MutBor}
use Rattle.counting.proofs.Joined.{clash}
use Rattle.testing.specs.declared.cases.Cases.{Cases}
use Rattle.testing.specs.Turns.{letter_of, past_kind, AnswersCase, Answered}

module _ {F E : Type 0} (g : Mut F (ℕ × (MutBor Cases × Unit {0})) (Result (Unit {0}) E × (MutBor Cases × Unit {0}))) where
  -- a call at what a `&mut` holds, which leaves what it holds then
  pub answers : {f f' : F} {letter : ℕ} {shown back : MutBor Cases} {answer : Result (Unit {0}) E} → Called g f (letter, (shown, tt)) (answer, (back, tt)) f' → AnswersCase g f letter shown.now answer f' back.now
  answers {shown = shown} {back = back} call = record { shown = shown; shows = refl; back = back; called = call; leaves = refl }

  -- a call at the letter at a cursor, and at the cursor past its kind
  pub answers_at : (f f' : F) (letter : ℕ) (cases past left : Cases) (answer : Result (Unit {0}) E) → letter ≡ letter_of cases → past ≡ past_kind cases → AnswersCase g f letter past answer f' left → AnswersCase g f (letter_of cases) (past_kind cases) answer f' left
  answers_at f f' letter cases past left answer is over call = subst (λ x. AnswersCase g f (letter_of cases) x answer f' left) over (subst (λ x. AnswersCase g f x past answer f' left) is call)

  -- no case is left that begins before the place
  pub answered_past : (end k : ℕ) (f : F) (cases : Cases) → end ≤ cases.at → Answered g end k f cases (Ok tt) f
  unfolding Answered
  answered_past end zero f cases h = (refl, refl)
  answered_past end (suc k) f cases h = rw (le-leb end cases.at h) (refl, refl)

  -- no turn is left
  pub answered_over : (end turn : ℕ) (f : F) (cases : Cases) → end ≤ turn → Answered g end (end - turn) f cases (Ok tt) f
  unfolding Answered
  answered_over end turn f cases h =
      let none : end - turn ≡ zero = omega (arith, h) in
      rw none (refl, refl)

  -- a case is answered, and then those after it
  pub answered_on : (end turn : ℕ) (f f' last : F) (cases left : Cases) (answer r : Result (Unit {0}) E) → turn < end → cases.at < end → is_err answer ≡ false → AnswersCase g f (letter_of cases) (past_kind cases) answer f' left → Answered g end (end - (turn + 1)) f' left r last → Answered g end (end - turn) f cases r last
  unfolding Answered
  answered_on end turn f f' last cases left (Ok u) r turns before fine call rest =
      let one : end - turn ≡ suc (end - (turn + 1)) = omega (arith, turns) in
      rw (one, lt-leb end cases.at before) (Ok u, f', left, call, rest)
  answered_on end turn f f' last cases left (Err e) r turns before fine call rest = clash refl fine

  -- a case is answered by an error
  pub answered_failed : (end turn : ℕ) (f f' : F) (cases left : Cases) (answer : Result (Unit {0}) E) → turn < end → cases.at < end → is_err answer ≡ true → AnswersCase g f (letter_of cases) (past_kind cases) answer f' left → Answered g end (end - turn) f cases answer f'
  unfolding Answered
  answered_failed end turn f f' cases left (Ok u) turns before fails call = clash fails refl
  answered_failed end turn f f' cases left (Err e) turns before fails call =
      let one : end - turn ≡ suc (end - (turn + 1)) = omega (arith, turns) in
      rw (one, lt-leb end cases.at before) (Err e, f', left, call, (refl, refl))
