-- The evaluation of a marking: the tables made of its list, what is struck, and a marking that is not valid.
-- Assumes nothing.
use Rattle.std.specs.Prelude.{Err}
use mathlib.Core.Bool.{false}
use mathlib.Core.List.{List}
use mathlib.Core.Path.{◌≡◌, sym, ◌∙◌}
use Prim.Native.Nat.{ℕ, ◌+◌, ◌*◌, ◌≤◌, ◌<◌}
use native.Mathlib.Omega.{arith}
use lib.ListN.{get_or}
use Rattle.counting.proofs.Joined.{clash, never}
use Rattle.model.specs.declared.Part.TheVariants.{Zero, One}
use Rattle.model.specs.declared.Caps.{Caps}
use Rattle.model.specs.declared.Refusal.{Refusal}
use Rattle.model.specs.Refusal.{Verdict, accepted}
use Rattle.model.specs.Limits.{line_room, line_limit, nonzero_limit}
use Rattle.model.specs.Pattern.{Pattern, pattern_of, lines, line_count}
use Rattle.model.specs.Marking.{Marking}
use Rattle.model.specs.Bound.{L3}
use Rattle.weighing.specs.declared.taking.Taken.{Taken}
use Rattle.weighing.specs.Cells.{marking_in}
use Rattle.weighing.specs.Taking.{TakenOf, valid_by}
use Rattle.weighing.proofs.Cells.{marking_in_lem}
use Rattle.weighing.proofs.Taken.{valid-by}
use Rattle.bound.specs.Evaluated.{Listed}
use Rattle.crossing.specs.Crossing.{Laid}
use Rattle.keeping.specs.Kept.{Holds}
use Rattle.judging.specs.Bounds.{struck_from}
use Rattle.judging.proofs.Bounds.{struck-from}
use Rattle.running.specs.declared.evaluating.Evaluation.{Evaluation}
use Rattle.running.specs.Judging.{Topped}
use Rattle.running.specs.Evaluating.{NoBound, Evaluates}
use Rattle.running.proofs.StruckFew.{struck_few}

-- the mark of a line
pub given_at_lem : (given : List ℕ) (l : ℕ) → l < line_room → get_or given l 0 ≡ marking_in given l
unfolding marking_in
given_at_lem given l b = sym (marking_in_lem given l b)

-- a list that is accepted is not refused
pub refused_never : {A : Type 0} (v : Verdict) {refusal : Refusal} → v ≡ Err refusal → v ≡ accepted → A
refused_never v h e = let q = sym h ∙ e in never (cc)

-- no line of an accepted list has more nonzeros than line_limit
pub listed_topped :
    {m n nonzeros : ℕ} {list rows : List ℕ} (μ : Marking) → Listed m n nonzeros list rows → Topped (pattern_of m n nonzeros list) μ line_limit
listed_topped μ listed = record { light = omega arith; above = λ l b e. listed.thin l }

-- the lines struck for both parts, and that they are few
module _ {P : Pattern} {μ : Marking} {starts cross marks by left kinds tally sums loads : List ℕ} (laid : Laid P starts cross) (h : Holds P μ marks by left kinds tally sums loads) (topped : Topped P μ line_limit) (caps : Caps) (top x y : ℕ) (is : top ≡ line_limit) (zero : x ≡ struck_from tally sums loads caps top 0) (one : y ≡ struck_from tally sums loads caps top 1) where
  pub struck_both : x + y ≡ L3 P caps μ
  unfolding L3
  struck_both =
      let above : (l : ℕ) → l < lines P → 3 ≤ μ l → line_count P l ≤ top = λ l b e. omega (arith, topped.above l b e) in
      omega (
        arith,
        struck-from laid.inside h top (omega arith) above caps Zero,
        struck-from laid.inside h top (omega arith) above caps One,
      )

  pub both_few : x + y ≤ 2 * (line_room * (nonzero_limit + 1))
  unfolding L3
  both_few =
      let few : lines P ≤ line_room = omega (arith, laid.few) in
      omega (arith, struck_both, struck_few P caps μ Zero few laid.small, struck_few P caps μ One few laid.small)

-- a marking that is not valid has no bound
pub not_valid :
    (P : Pattern) (caps : Caps) (μ : Marking) (best : ℕ) (t : Taken) (r : Evaluation) → TakenOf P μ t → valid_by t caps ≡ false →
    r.valid ≡ false → r.zero ≡ t.zero → r.one ≡ t.one → NoBound r → Evaluates P caps μ best r
not_valid P caps μ best t r k v e z o none =
    record {
      valid_is = e ∙ sym v ∙ valid-by caps k;
      zero_is = z ∙ k.zero_is;
      one-is = o ∙ k.one-is;
      cut_is = λ h. clash h e;
      torn_is = λ h. clash h e;
      struck_is = λ h. clash h e;
      matched_is = λ h. clash h e;
      least_is = λ h. clash h e;
      looks_is = λ h. clash h e;
      none = λ h. none;
    }
