-- What the calls see of a pattern is the same for patterns that are alike: the rules, the fresh record, the walk, and what a run and a showing answer.
-- Assumes nothing.
use Rattle.std.specs.Prelude.{Ok, Err}
use mathlib.Core.Bool.{Bool}
use mathlib.Core.List.{List}
use mathlib.Core.Option.{Option, some, none}
use mathlib.Core.Path.{◌≡◌, refl, ap, fun_ext}
use Prim.Native.Nat.{ℕ}
use Rattle.model.specs.Refusal.{◌then◌, Verdict}
use Rattle.model.specs.declared.Caps.{Caps}
use Rattle.model.specs.declared.Search.{Search}
use Rattle.model.specs.Pattern.{Pattern, line_total}
use Rattle.model.specs.Split.{unequal}
use Rattle.model.specs.Marking.{marking, valid}
use Rattle.model.specs.Bound.{bound}
use Rattle.model.specs.Matching.{looks}
use Rattle.model.specs.Walk.{Record, Rules, rules_of, fresh_of, walked, floor}
use Rattle.model.specs.State.{record_of, search_of}
use Rattle.model.specs.Calls.{ran_record, ran_after, shown, shown_parts, shown_after, parts_after}
use Rattle.model.proofs.Alike.Patterns.{Alike, total_same}
use Rattle.model.proofs.Alike.Marks.{trail_marks, valid_same}
use Rattle.model.proofs.Alike.Bounds.{bound_same, looks_same}
use Rattle.model.proofs.Alike.Shown.{alike_bytes, alike_shown-volume}

-- rules that ask the same of each marking
abbrev rules : Caps → ℕ → (List ℕ → Bool) → (List ℕ → ℕ) → (List ℕ → ℕ) → Rules
rules caps k valid bound looks = record { k = k; one_first = unequal caps; valid = valid; bound = bound; looks = looks }

rules_agree :
    (caps : Caps) (j k : ℕ) (v w : List ℕ → Bool) (b c l n : List ℕ → ℕ) →
    j ≡ k → ((τ : List ℕ) → v τ ≡ w τ) → ((τ : List ℕ) → b τ ≡ c τ) → ((τ : List ℕ) → l τ ≡ n τ) →
    rules caps j v b l ≡ rules caps k w c n
rules_agree caps j k v w b c l n e f g h = λ i. rules caps (e i) (fun_ext f i) (fun_ext g i) (fun_ext h i)

module _ {P Q : Pattern} (a : Alike P Q) where
  -- what the walk asks of a marking
  pub alike_rules : (caps : Caps) → rules_of P caps ≡ rules_of Q caps
  unfolding rules_of
  alike_rules caps =
      rules_agree
      caps
      (line_total P)
      (line_total Q)
      (λ τ. valid P caps (marking P τ))
      (λ τ. valid Q caps (marking Q τ))
      (λ τ. bound P caps (marking P τ))
      (λ τ. bound Q caps (marking Q τ))
      (λ τ. looks P (marking P τ))
      (λ τ. looks Q (marking Q τ))
      (total_same a)
      (λ τ. valid_same (trail_marks a τ) caps)
      (λ τ. bound_same (trail_marks a τ) caps)
      (λ τ. looks_same (trail_marks a τ))

  -- the fresh record
  pub alike_fresh : (caps : Caps) → fresh_of P caps ≡ fresh_of Q caps
  unfolding fresh_of
  alike_fresh caps = rw (total_same a, a.m_same, a.n_same, a.size_same)

  -- the walk
  pub alike_walked : (caps : Caps) (n : ℕ) → walked P caps n ≡ walked Q caps n
  unfolding walked
  alike_walked caps n = rw (alike_rules caps, alike_fresh caps)

  -- the floor
  pub alike_floor : (caps : Caps) (r : Record) → floor (rules_of P caps) r ≡ floor (rules_of Q caps) r
  alike_floor caps r = ap (λ (R : Rules). floor R r) (alike_rules caps)

  -- what an opening answers
  pub alike_opened : (verdict : Verdict) (caps : Caps) → verdict then Ok (search_of (fresh_of P caps)) ≡ verdict then Ok (search_of (fresh_of Q caps))
  alike_opened (Ok _) caps = rw (alike_fresh caps)
  alike_opened (Err refusal) caps = refl

  -- what a run answers
  pub alike_ran : (verdict : Verdict) (s : Search) (budget : ℕ) → ran_after verdict s P budget ≡ ran_after verdict s Q budget
  unfolding ran_after ran_record
  alike_ran (Ok _) s budget = rw (alike_rules (record_of s).caps)
  alike_ran (Err refusal) s budget = refl

  -- what a showing answers
  pub shown_alike : (caps : Caps) (best : Option (List ℕ)) (floor : ℕ) → shown P caps best floor ≡ shown Q caps best floor
  unfolding shown
  shown_alike caps none floor = refl
  shown_alike caps (some best) floor = rw (alike_shown-volume a caps best)

  pub alike_shown-answer : (verdict : Verdict) (r : Record) → shown_after verdict r P ≡ shown_after verdict r Q
  unfolding shown_after
  alike_shown-answer (Ok _) r = rw (alike_rules r.caps, shown_alike r.caps r.best)
  alike_shown-answer (Err refusal) r = refl

  -- the parts buffer after a showing
  pub parts_alike : (caps : Caps) (best : Option (List ℕ)) (parts : List ℕ) → shown_parts P caps best parts ≡ shown_parts Q caps best parts
  unfolding shown_parts
  parts_alike caps none parts = refl
  parts_alike caps (some best) parts = alike_bytes a caps best parts

  pub alike_parts : (verdict : Verdict) (r : Record) (parts : List ℕ) → parts_after verdict r P parts ≡ parts_after verdict r Q parts
  unfolding parts_after
  alike_parts (Ok _) r parts = parts_alike r.caps r.best parts
  alike_parts (Err refusal) r parts = refl
