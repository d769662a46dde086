-- Demand 3 for a host: where the C function answers 0, what it wrote keeps the promise of specs/Promise.antt.
-- Assumes nothing.
use mathlib.Core.Bool.{Bool, true, false}
use mathlib.Core.List.{List}
use mathlib.Core.Path.{◌≡◌, refl, sym, ◌∙◌, ap}
use Prim.Native.Nat.{ℕ, ◌*◌, ◌^◌, ◌≤◌, ◌<◌}
use native.Mathlib.Omega.{arith}
use lib.ListN.{length}
use Rattle.counting.specs.Tests.{bit}
use Rattle.counting.proofs.Joined.{no_way}
use Rattle.counting.proofs.Counted.{count_most}
use Rattle.std.specs.Prelude.{Result, Ok, Err}
use Rattle.model.specs.declared.Refusal.{Refusal}
use Rattle.model.specs.declared.Caps.{Caps}
use Rattle.model.specs.declared.Shown.{Shown}
use Rattle.model.specs.declared.Shown.TheVariants as showing
use Rattle.model.specs.Limits.{line_limit}
use Rattle.model.specs.Refusal.{Verdict, accepted, refusal_code, reply_code}
use Rattle.model.specs.Pattern.{Pattern, pattern_of, lines}
use Rattle.model.specs.Split.{Split, Meets, volume, is_cut}
use Rattle.model.specs.Walk.{Record, walked}
use Rattle.model.specs.State.{search_of}
use Rattle.model.specs.Calls.{complete_number, show_call, show_code, shows_reply}
use Rattle.model.proofs.Split.Volume.{volume-is-cuts}
use Rattle.model.proofs.Theorems.Accepted.{list_accepted}
use Rattle.pattern.specs.Splits.{split_of}
use Rattle.search.specs.Demand.{SplitAnswered}
use Rattle.gulzoreno.specs.Figures.{figures_bytes, with_figures}
use Rattle.gulzoreno.specs.Host.{host_verdict, host_search, host_code_after, figures_shown, bipartition_code, bipartition_parts, bipartition_figures}
use Rattle.gulzoreno.specs.Promise.{figure_in, Promise}
use Rattle.model.proofs.Theorems.Numbers.{number_range}
use Rattle.gulzoreno.proofs.Walked.{listed, figures_long, at_end, told, code_is, parts_are, figures_are}
use Rattle.gulzoreno.proofs.Reading as reading

-- answer 0 is no refusal
code_accepted : (v : Verdict) (a : Result Shown Refusal) → host_code_after v a ≡ 0 → v ≡ accepted
unfolding host_code_after refusal_code reply_code
code_accepted (Ok _) a h = refl
code_accepted (Err refusal) a h = no_way (omega (arith, (number_range refusal.word).0))

-- and not "none yet"
code_split : (a : Result Shown Refusal) → show_code a ≡ 0 → (shown low : ℕ) × (a ≡ Ok (showing.Split shown low))
unfolding show_code reply_code shows_reply
code_split (Ok (showing.Split shown low)) h = (shown, low, refl)
code_split (Ok (showing.NoneYet low)) h = no_way (omega arith)
code_split (Err refusal) h = no_way (omega (arith, (number_range refusal.word).0))

-- complete as a number
complete_so : (complete : Bool) → complete_number complete ≡ 1 → complete ≡ true
unfolding complete_number bit
complete_so true h = refl
complete_so false h = no_way (omega arith)

-- a volume is at most the number of lines
volume_most : (P : Pattern) (σ : Split) → volume P σ ≤ lines P
volume_most P σ = omega (arith, volume-is-cuts P σ, count_most (is_cut P σ) (lines P))

module _
    (m n nonzeros : ℕ) (list : List ℕ) (caps : Caps) (budget : ℕ) (parts figures : List ℕ)
    (zero-answered : bipartition_code m n nonzeros list caps budget parts figures ≡ 0) where
  abbrev P : Pattern
  P = pattern_of m n nonzeros list

  abbrev r : Record
  r = walked P caps budget

  passes : host_verdict m n nonzeros list caps budget parts figures ≡ accepted
  unfolding bipartition_code
  passes =
      code_accepted
      (host_verdict m n nonzeros list caps budget parts figures)
      (show_call (host_search m n nonzeros list caps budget) m n nonzeros list parts)
      zero-answered

  -- the split answered
  abbrev Told : Result Shown Refusal
  Told = show_call (host_search m n nonzeros list caps budget) m n nonzeros list parts

  found : (shown low : ℕ) × (Told ≡ Ok (showing.Split shown low))
  found = code_split Told (sym (code_is m n nonzeros list caps budget parts figures passes) ∙ zero-answered)

  abbrev shown : ℕ
  shown = found.0

  abbrev low : ℕ
  low = found.1

  -- what demand 3 says of it, read off the parts written
  split :
      SplitAnswered P caps r parts shown low (bipartition_parts m n nonzeros list caps budget parts figures)
  split =
      rw
      (parts_are m n nonzeros list caps budget parts figures passes)
      ((told m n nonzeros list caps budget parts figures passes).split shown low found.2)

  figures-written :
      bipartition_figures m n nonzeros list caps budget parts figures ≡ with_figures shown r.tries low r.complete figures
  unfolding figures_shown search_of
  figures-written =
      figures_are m n nonzeros list caps budget parts figures passes
      ∙ ap (λ (a : Result Shown Refusal). figures_shown a (search_of r) figures) found.2

  -- the numbers are small
  few : lines P ≤ 2 * line_limit
  unfolding lines pattern_of
  few =
      let fine = list_accepted m n nonzeros list (listed m n nonzeros list caps budget parts figures passes) in
      omega (arith, fine.rows_to, fine.columns_to)

  shown_fits : shown < 256 ^ 8
  shown_fits =
      omega (arith, split.volume_is, volume_most P (split_of (bipartition_parts m n nonzeros list caps budget parts figures)), few)

  tries_fit : r.tries < 256 ^ 8
  tries_fit = omega (arith, (at_end m n nonzeros list caps budget parts figures passes).tries-limit)

  low_fits : low < 256 ^ 8
  low_fits =
      omega (
        arith,
        split.floor_below (split_of (bipartition_parts m n nonzeros list caps budget parts figures)) split.meets,
        split.volume_is,
        shown_fits,
      )

  -- they are read off the figures
  abbrev F : List ℕ
  F = bipartition_figures m n nonzeros list caps budget parts figures

  long : figures_bytes ≤ length figures
  long = figures_long m n nonzeros list caps budget parts figures passes

  volume_is : figure_in 0 F ≡ shown
  volume_is =
      ap (figure_in 0) figures-written
      ∙ reading.volume-back _ _ _ r.complete figures long shown_fits tries_fit low_fits

  tries_are : figure_in 1 F ≡ r.tries
  tries_are =
      ap (figure_in 1) figures-written
      ∙ reading.tries_back _ _ _ r.complete figures long shown_fits tries_fit low_fits

  floor_is : figure_in 2 F ≡ low
  floor_is =
      ap (figure_in 2) figures-written
      ∙ reading.floor-back _ _ _ r.complete figures long shown_fits tries_fit low_fits

  complete_is : figure_in 3 F ≡ complete_number r.complete
  complete_is =
      ap (figure_in 3) figures-written
      ∙ reading.complete_back _ _ _ r.complete figures long shown_fits tries_fit low_fits

  -- a floor that no split undercuts, and that a complete search's split reaches
  floor_under : (σ : Split) → Meets P caps σ → figure_in 2 F ≤ volume P σ
  floor_under σ meets = omega (arith, floor_is, split.floor_below σ meets)

  closes : figure_in 3 F ≡ 1 → figure_in 2 F ≡ figure_in 0 F
  closes h = floor_is ∙ split.complete_closed (complete_so r.complete (sym complete_is ∙ h)) ∙ sym volume_is

  -- the promise
  pub promise_kept : Promise P caps budget (bipartition_parts m n nonzeros list caps budget parts figures) F
  promise_kept =
      record {
        meets = split.meets;
        volume_written = volume_is ∙ sym split.volume_is;
        tries_written = tries_are;
        complete_written = complete_is;
        floor_below = floor_under;
        complete_closed = closes;
        complete_least = λ h σ meets. omega (arith, closes h, floor_under σ meets);
      }
