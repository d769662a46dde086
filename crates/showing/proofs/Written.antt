-- Laws of the pass that writes the shown split: its start, one nonzero more, and its end.
-- Assumes nothing.
use mathlib.Core.Bool.{Bool, not}
use mathlib.Core.List.{List}
use mathlib.Core.Path.{◌≡◌, refl, sym, ◌∙◌, ap}
use Prim.Native.Nat.{ℕ, ◌+◌, ◌≤◌}
use native.Mathlib.Numerals.{add-one}
use native.Mathlib.Omega.{arith}
use lib.Dec.{ltb}
use lib.ListN.{set}
use Rattle.counting.specs.Tests.{◌and◌, ◌or◌, pick, bit}
use Rattle.counting.proofs.Joined.{bit_le_one}
use Rattle.model.specs.declared.Part.TheVariants.{Zero, One}
use Rattle.model.specs.declared.Caps.{Caps}
use Rattle.model.specs.Pattern.{Pattern}
use Rattle.model.specs.Split.{Split, part_number}
use Rattle.model.specs.Marking.{Marking, takes, taken}
use Rattle.model.specs.Bound.{untaken}
use Rattle.model.specs.Walk.{filled, shown_split}
use Rattle.model.specs.Calls.{part_bytes}
use Rattle.showing.specs.Parts.{shown_part}

-- what a pass over the first t nonzeros has filled in and written, where the number taken by 0 was given right
pub record WrittenTo (P : Pattern) (caps : Caps) (μ : Marking) (given t fill : ℕ) (parts₀ parts : List ℕ) : Type 0 where
  pub few : fill ≤ t
  pub filled_is : given ≡ taken P μ Zero → fill ≡ filled P caps μ t
  pub parts_are : given ≡ taken P μ Zero → parts ≡ part_bytes (shown_split P caps μ) t parts₀

-- before the first nonzero
pub written_start : (P : Pattern) (caps : Caps) (μ : Marking) (given : ℕ) (parts : List ℕ) → WrittenTo P caps μ given 0 0 parts parts
unfolding filled part_bytes
written_start P caps μ given parts =
    record { few = omega arith; filled_is = λ e. refl; parts_are = λ e. refl }

-- what the calls for one nonzero say
pub record WrittenMore (P : Pattern) (caps : Caps) (μ : Marking) (given t fill more byte : ℕ) (first second room : Bool) (parts parts' : List ℕ) : Type 0 where
  pub first-is : first ≡ takes P μ Zero t
  pub second_is : second ≡ takes P μ One t
  pub room_is : room ≡ ltb (given + fill) caps.cap0
  pub byte_is : byte ≡ shown_part first second room
  pub more_is : more ≡ bit (not (first or second) and room)
  pub parts_set : parts' ≡ set parts t byte

-- the definitions at one nonzero more, as the loop counts
filled_next :
    (P : Pattern) (caps : Caps) (μ : Marking) (t : ℕ) →
    filled P caps μ (t + 1)
    ≡ filled P caps μ t + bit (untaken P μ t and ltb (taken P μ Zero + filled P caps μ t) caps.cap0)
unfolding filled
filled_next P caps μ t = rw add-one

bytes_next :
    (σ : Split) (t : ℕ) (parts : List ℕ) →
    part_bytes σ (t + 1) parts ≡ set (part_bytes σ t parts) t (part_number (σ t))
unfolding part_bytes
bytes_next σ t parts = rw add-one

-- a nonzero's byte, from the three tests
byte_from :
    (P : Pattern) (caps : Caps) (μ : Marking) (t : ℕ) (first second room : Bool) →
    first ≡ takes P μ Zero t → second ≡ takes P μ One t → room ≡ ltb (taken P μ Zero + filled P caps μ t) caps.cap0 →
    shown_part first second room ≡ part_number (shown_split P caps μ t)
unfolding shown_part shown_split
byte_from P caps μ t first second room f s r =
    ap (λ (x : Bool). part_number (pick x Zero (pick second One (pick room Zero One)))) f
    ∙ ap (λ (x : Bool). part_number (pick (takes P μ Zero t) Zero (pick x One (pick room Zero One)))) s
    ∙ ap (λ (x : Bool). part_number (pick (takes P μ Zero t) Zero (pick (takes P μ One t) One (pick x Zero One)))) r

-- and whether it is filled in
fill_from :
    (P : Pattern) (caps : Caps) (μ : Marking) (t : ℕ) (first second room : Bool) →
    first ≡ takes P μ Zero t → second ≡ takes P μ One t → room ≡ ltb (taken P μ Zero + filled P caps μ t) caps.cap0 →
    not (first or second) and room ≡ untaken P μ t and ltb (taken P μ Zero + filled P caps μ t) caps.cap0
unfolding untaken
fill_from P caps μ t first second room f s r =
    ap (λ (x : Bool). not (x or second) and room) f
    ∙ ap (λ (x : Bool). not (takes P μ Zero t or x) and room) s
    ∙ ap (λ (x : Bool). not (takes P μ Zero t or takes P μ One t) and x) r

-- one nonzero more
pub written-more :
    {P : Pattern} {caps : Caps} {μ : Marking} {given t fill more byte : ℕ} {first second room : Bool} {parts₀ parts parts' : List ℕ} →
    WrittenTo P caps μ given t fill parts₀ parts →
    WrittenMore P caps μ given t fill more byte first second room parts parts' →
    WrittenTo P caps μ given (t + 1) (fill + more) parts₀ parts'
written-more {P} {caps} {μ} {given} {t} {fill} {more} {byte} {first} {second} {room} {parts₀} {parts} {parts'} k h =
    record {
      few = omega (arith, k.few, h.more_is, bit_le_one (not (first or second) and room));
      filled_is = λ e. ap (λ (x : ℕ). x + more) (k.filled_is e)
          ∙ ap (λ (x : ℕ). filled P caps μ t + x) (fills e)
          ∙ sym (filled_next P caps μ t);
      parts_are = λ e. h.parts_set
          ∙ ap (λ (xs : List ℕ). set xs t byte) (k.parts_are e)
          ∙ ap (λ (x : ℕ). set (part_bytes (shown_split P caps μ) t parts₀) t x) (byte_right e)
          ∙ sym (bytes_next (shown_split P caps μ) t parts₀);
    }
  where
    room_right : given ≡ taken P μ Zero → room ≡ ltb (taken P μ Zero + filled P caps μ t) caps.cap0
    room_right e =
        h.room_is
        ∙ ap (λ (x : ℕ). ltb (x + fill) caps.cap0) e
        ∙ ap (λ (x : ℕ). ltb (taken P μ Zero + x) caps.cap0) (k.filled_is e)

    fills : given ≡ taken P μ Zero → more ≡ bit (untaken P μ t and ltb (taken P μ Zero + filled P caps μ t) caps.cap0)
    fills e =
        h.more_is ∙ ap bit (fill_from P caps μ t first second room h.first-is h.second_is (room_right e))

    byte_right : given ≡ taken P μ Zero → byte ≡ part_number (shown_split P caps μ t)
    byte_right e =
        h.byte_is ∙ byte_from P caps μ t first second room h.first-is h.second_is (room_right e)

-- after the last nonzero
pub written_end :
    {P : Pattern} {caps : Caps} {μ : Marking} {given t fill : ℕ} {parts₀ parts : List ℕ} (nonzeros : ℕ) →
    t ≡ nonzeros → WrittenTo P caps μ given t fill parts₀ parts →
    given ≡ taken P μ Zero → parts ≡ part_bytes (shown_split P caps μ) nonzeros parts₀
written_end {P} {caps} {μ} {given} {t} {fill} {parts₀} nonzeros e k right =
    k.parts_are right ∙ ap (λ (s : ℕ). part_bytes (shown_split P caps μ) s parts₀) e
