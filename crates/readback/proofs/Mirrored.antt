-- The list of a symmetric text that is read holds (j, i) wherever it holds (i, j), and for integer both are in one part.
-- Assumes nothing.
use mathlib.Core.Bool.{Bool, true}
use mathlib.Core.List.{List}
use mathlib.Core.Path.{◌≡◌, refl, sym}
use mathlib.Core.Logic.{⊎_elim, inl, inr}
use Prim.Native.Nat.{ℕ, ◌+◌}
use native.Mathlib.Omega.{arith}
use Rattle.model.specs.Pattern.{row_in, column_in}
use Rattle.scanning.specs.declared.Numbers.{Numbers}
use Rattle.texts.specs.declared.Header.{Header}
use Rattle.texts.specs.Reading.{read_as}
use Rattle.texts.specs.Header.{header_of}
use Rattle.texts.specs.Reading.{read_call, read_list, read_parts}
use Rattle.readback.specs.TextSays.{entry_below, StandsFor, LineGives, Mirrored}
use Rattle.readback.proofs.TextSays.{text_says}

-- what an entry of a symmetric text stands for, it stands for exchanged
stands-turned : (h : Header) (e : Numbers) (i j : ℕ) → h.symmetric ≡ true → StandsFor h e i j → StandsFor h e j i
stands-turned h e i j s w = ⊎_elim (λ x. inr (s, x.1, x.0)) (λ x. inl (x.2, x.1)) w

line_turned : (text : List ℕ) (k i j : ℕ) → (header_of text).symmetric ≡ true → LineGives text k i j → LineGives text k j i
line_turned text k i j s g = record { entry = g.entry; stands = stands-turned (header_of text) (entry_below text k) i j s g.stands }

pub symmetric_mirrored :
    (text list parts : List ℕ) (m n nonzeros : ℕ) (integer : Bool) → read_call text list parts ≡ read_as m n nonzeros integer →
    (header_of text).symmetric ≡ true → Mirrored (read_list text list parts) (read_parts text list parts) nonzeros integer
symmetric_mirrored text list parts m n nonzeros integer e symmetric =
    let says = text_says text list parts m n nonzeros integer e in
    let new = read_list text list parts in
    record {
      list_mirrored =
          λ row column l. let t = (says.list_says row column).0 l in
          (says.list_says column row).1 (record { line = t.line; gives = line_turned text t.line (row + 1) (column + 1) symmetric t.gives });
      parts_mirrored =
          λ i s t s-in t-in row_is column_is.
          let l =
          (says.list_says (row_in new s) (column_in new s)).0
          (record { nonzero = s; numbered = s-in; row_is = refl; column_is = refl }) in
          let there : LineGives text l.line (row_in new t + 1) (column_in new t + 1) =
          rw (sym row_is, sym column_is) (line_turned text l.line (row_in new s + 1) (column_in new s + 1) symmetric l.gives) in
          omega (arith, says.parts_say i s l.line s-in l.gives, says.parts_say i t l.line t-in there);
    }
