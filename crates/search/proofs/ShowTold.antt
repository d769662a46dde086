-- What a showing answered and left in its parts buffer, read off the equations that it meets, by the table's verdict.
-- Assumes nothing.
use mathlib.Core.Bool.{true}
use mathlib.Core.List.{List}
use mathlib.Core.Option.{Option, some, none}
use mathlib.Core.Path.{◌≡◌, refl, sym, ◌∙◌, ap, subst}
use Prim.Native.Nat.{ℕ, ◌≤◌}
use native.Mathlib.Omega.{arith}
use lib.ListN.{length}
use Rattle.counting.proofs.Joined.{never}
use Rattle.std.specs.Prelude.{Result, Ok, Err}
use Rattle.model.specs.declared.Refusal.{Refusal}
use Rattle.model.specs.declared.Word.{Word}
use Rattle.model.specs.declared.Caps.{Caps}
use Rattle.model.specs.declared.Shown.{Shown}
use Rattle.model.specs.declared.Shown.TheVariants as showing
use Rattle.model.specs.Refusal.{Verdict, accepted, refused, reply_after}
use Rattle.model.specs.Pattern.{Pattern}
use Rattle.model.specs.Split.{Split, Meets, volume}
use Rattle.model.specs.Walk.{Record, rules_of, floor}
use Rattle.model.specs.Calls.{shown_from, shown, part_bytes, shown_parts, shown_after, parts_after, show_reply, shown_reply}
use Rattle.model.proofs.Theorems.Replies.{show-by_verdict}
use Rattle.showing.proofs.ReadBack.{bytes-length, bytes_rest, byte_back, volume-back, meets-back}
use Rattle.search.specs.Demand.{SplitAnswered, ShowAnswered}

-- what the claims on a showing rest on: the facts of demand 3 at a record
module _
    (P : Pattern) (caps : Caps) (r : Record)
    (shown_meets : (best : List ℕ) → r.best ≡ some best → Meets P caps (shown_from P caps best))
    (floor_below : (σ : Split) → Meets P caps σ → floor (rules_of P caps) r ≤ volume P σ)
    (complete_closed :
    r.complete ≡ true → (best : List ℕ) → r.best ≡ some best →
    floor (rules_of P caps) r ≡ volume P (shown_from P caps best))
    (parts : List ℕ) where
  abbrev lowest : ℕ
  lowest = floor (rules_of P caps) r

  -- the split that was written
  split_answered :
      (best : List ℕ) → r.best ≡ some best → P.size ≤ length parts →
      SplitAnswered P caps r parts (volume P (shown_from P caps best)) lowest (part_bytes (shown_from P caps best) P.size parts)
  split_answered best b room =
      let σ = shown_from P caps best in
      record {
        meets = meets-back P caps σ parts room (shown_meets best b);
        volume_is = volume-back P σ parts room;
        walk_shows = (best, b, (λ t l. byte_back σ P.size t parts room l));
        floor_is = refl;
        floor_below = floor_below;
        complete_closed = λ done. complete_closed done best b;
        same_length = bytes-length σ P.size parts;
        rest_stays = λ i l. bytes_rest σ P.size i parts l;
      }

  -- a split shown
  found_answered :
      (best : List ℕ) → r.best ≡ some best → P.size ≤ length parts → (answer : Result Shown Refusal) (after : List ℕ) →
      answer ≡ Ok (showing.Split (volume P (shown_from P caps best)) lowest) →
      after ≡ part_bytes (shown_from P caps best) P.size parts →
      show_reply answer ≡ reply_after accepted (shown_reply P caps r.best lowest) →
      ShowAnswered P caps r accepted parts answer after
  found_answered best b room answer after is bytes reply =
      record {
        refused = λ word place. ((λ a. never (cc)), (λ a. never (cc)));
        unchanged = λ word place a. never (cc);
        none_yet = λ low. ((λ a. never (cc)), (λ w. never (cc)));
        none_stays = λ low a. never (cc);
        none_floor = λ low a σ meets. never (cc);
        found = λ other v e.
            let same : best ≡ other = cc in
            is ∙ ap (λ (τ : List ℕ). Ok (showing.Split (volume P (shown_from P caps τ)) lowest)) same;
        split = λ shown low a.
            let volume_same : volume P (shown_from P caps best) ≡ shown = cc in
            let floor-same : lowest ≡ low = cc in
            subst
            (λ (bs : List ℕ). SplitAnswered P caps r parts shown low bs)
            (sym bytes)
            (subst
            (λ (f : ℕ). SplitAnswered P caps r parts shown f (part_bytes (shown_from P caps best) P.size parts))
            floor-same
            (subst
            (λ (x : ℕ). SplitAnswered P caps r parts x lowest (part_bytes (shown_from P caps best) P.size parts))
            volume_same
            (split_answered best b room)));
        reply = reply;
      }

  -- "none yet"
  none_answered :
      r.best ≡ none → (answer : Result Shown Refusal) (after : List ℕ) →
      answer ≡ Ok (showing.NoneYet lowest) → after ≡ parts →
      show_reply answer ≡ reply_after accepted (shown_reply P caps r.best lowest) →
      ShowAnswered P caps r accepted parts answer after
  none_answered b answer after is bytes reply =
      record {
        refused = λ word place. ((λ a. never (cc)), (λ a. never (cc)));
        unchanged = λ word place a. bytes;
        none_yet = λ low. ((λ a. (refl, b, cc)), (λ w. is ∙ ap (λ (low : ℕ). Ok (showing.NoneYet low)) w.2));
        none_stays = λ low a. bytes;
        none_floor = λ low a σ meets. let same : lowest ≡ low = cc in omega (arith, floor_below σ meets);
        found = λ best v e. never (cc);
        split = λ shown low a. never (cc);
        reply = reply;
      }

  -- a refusal
  refused_answered :
      (word : Word) (place : ℕ) (answer : Result Shown Refusal) (after : List ℕ) →
      answer ≡ refused word place → after ≡ parts →
      show_reply answer ≡ reply_after (refused word place) (shown_reply P caps r.best lowest) →
      ShowAnswered P caps r (refused word place) parts answer after
  refused_answered word place answer after is bytes reply =
      record {
        refused = λ w p. ((λ a. cc), (λ a. cc));
        unchanged = λ w p a. bytes;
        none_yet = λ low. ((λ a. never (cc)), (λ w. never (cc)));
        none_stays = λ low a. bytes;
        none_floor = λ low a σ meets. never (cc);
        found = λ best v e. never (cc);
        split = λ shown low a. never (cc);
        reply = reply;
      }

  -- by the best marking, where nothing is refused
  accepted_answered :
      (best : Option (List ℕ)) → r.best ≡ best → P.size ≤ length parts → (answer : Result Shown Refusal) (after : List ℕ) →
      answer ≡ Ok (shown P caps best lowest) → after ≡ shown_parts P caps best parts →
      show_reply answer ≡ reply_after accepted (shown_reply P caps r.best lowest) →
      ShowAnswered P caps r accepted parts answer after
  unfolding shown shown_parts
  accepted_answered none b room answer after is bytes reply = none_answered b answer after is bytes reply
  accepted_answered (some best) b room answer after is bytes reply = found_answered best b room answer after is bytes reply

  -- what a showing answered
  pub show_tells :
      r.caps ≡ caps → (v : Verdict) → (v ≡ accepted → P.size ≤ length parts) → (answer : Result Shown Refusal) (after : List ℕ) →
      answer ≡ shown_after v r P → after ≡ parts_after v r P parts → ShowAnswered P caps r v parts answer after
  unfolding shown_after parts_after
  show_tells same (Ok _) room answer after is bytes =
      accepted_answered
      r.best
      refl
      (room refl)
      answer
      after
      (is ∙ ap (λ (c : Caps). Ok (shown P c r.best (floor (rules_of P c) r))) same)
      (bytes ∙ ap (λ (c : Caps). shown_parts P c r.best parts) same)
      (ap show_reply is
      ∙ show-by_verdict accepted r P
      ∙ ap (λ (c : Caps). reply_after accepted (shown_reply P c r.best (floor (rules_of P c) r))) same)
  show_tells same (Err refusal) room answer after is bytes =
      refused_answered
      refusal.word
      refusal.place
      answer
      after
      is
      bytes
      (ap show_reply is
      ∙ show-by_verdict (Err refusal) r P
      ∙ ap (λ (c : Caps). reply_after (Err refusal) (shown_reply P c r.best (floor (rules_of P c) r))) same)
